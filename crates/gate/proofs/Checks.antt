-- Laws of the check: `scan`, and then what is judged of the table that its index shows, are the gate's answer and slices.
-- Assumes nothing.
use Rattle.std.specs.Prelude.{Err, Ok, Result, ℕ}
use Prim.Native.Nat.{ℕ, suc, ◌<◌}
use mathlib.Core.Path.{◌≡◌, refl, sym, ap, ◌∙◌, subst}
use mathlib.Core.List.{List, []}
use mathlib.Core.Option.{Option, none, some}
use native.Mathlib.Omega.{arith}
use lib.ListN.{length, get_or}
use Rattle.gate.specs.Check.{AnswerOf}
use Rattle.gate.proofs.Stands.{stands-judged}
use Rattle.phases.specs.Said.{said_as_paper, judged}
use Rattle.views.specs.declared.View.{View}
use Rattle.gate.specs.Standing.{Standing}
use Rattle.onepass.specs.Pass.{GoodOf, SureOf}
use Rattle.onepass.specs.declared.whole.Sure.{Sure}
use Rattle.onepass.specs.declared.whole.Sure.TheVariants.{Good}
use Rattle.paper.proofs.gates.Acceptance.{meets-accepted}
use Rattle.paper.proofs.Outcomes.{gate-refused, gate-accepted, length-index_of, get_d-index_of}
use Rattle.paper.specs.rules.Answer.{Answer, report, checked_as_paper}
use Rattle.paper.specs.rules.Choice.{or_else}
use Rattle.paper.specs.terms.Fit.{Bytes}
use Rattle.paper.specs.rules.Gate.{phase1, phase2, short_slices}
use Rattle.paper.specs.rules.Gate.{table_report, refusal, zeros, index_of, Outcome, outcome, gate}
use Rattle.paper.specs.rules.Header.{order_of}
use Rattle.paper.specs.rules.Table.{count}
use Rattle.paper.specs.rules.Walk.{table_of}
use Rattle.paper.specs.declared.Report.{Report}
use Rattle.scan.proofs.Founds.{count-readable}
use Rattle.scan.specs.Scan.{scan_report, CountOf, FoundOf, index_after, ScanOf}

-- ── with phases 1 and 2 before them ──

module _ (b : List ℕ) (places work : ℕ) where
  scan-first : refusal b places work ≡ or_else (scan_report b places work) (table_report (table_of b))
  unfolding refusal scan_report
  scan-first = go (phase1 b) (phase2 b) (short_slices (count (table_of b)) places work)
    where
      go : (x y z : Option Answer) → or_else x (or_else y (or_else z (table_report (table_of b)))) ≡ or_else (or_else x (or_else y z)) (table_report (table_of b))
      go none none none = refl
      go none none (some z) = refl
      go none (some y) z = refl
      go (some x) y z = refl

  pub scan-refused : {index : List ℕ} (s : Result ℕ Report) {r : Report} → ScanOf s b places work index → s ≡ Err r → AnswerOf (Err r) b places work index
  unfolding checked_as_paper
  scan-refused s {r} found p =
      let is = subst (λ (x : Result ℕ Report). FoundOf x b places work) p found.found in
      let e = scan-first ∙ ap (λ (o : Option Answer). or_else o (table_report (table_of b))) is in
      let g = gate-refused b places work e in
      record {
        answers = sym (ap (λ (o : Outcome). o.answer) g);
        indexes = found.left ∙ ap (λ (x : Result ℕ Report). index_after x b places) p ∙ sym (ap (λ (o : Outcome). o.index) g);
      }

  module _ {n : ℕ} {index : List ℕ} (s : Result ℕ Report) (found : ScanOf s b places work index) (p : s ≡ Ok n) where
    counted : CountOf n b places work
    counted = subst (λ (x : Result ℕ Report). FoundOf x b places work) p found.found

    placed : index ≡ index_of (table_of b) places
    placed = found.left ∙ ap (λ (x : Result ℕ Report). index_after x b places) p

    after-scan : refusal b places work ≡ table_report (table_of b)
    after-scan = scan-first ∙ ap (λ (o : Option Answer). or_else o (table_report (table_of b))) counted.silent

    pub scan-standing : Bytes b → Standing b index n
    scan-standing bytes =
        let r = count-readable b places work counted in
        let T = table_of b in
        let long : length index ≡ places = ap length placed ∙ length-index_of T places r.enough_places in
        record {
          bytes = bytes;
          readable =
              record {
                header = r.header;
                section = r.section;
                enough_places = omega (arith, r.enough_places);
                enough_work = omega (arith, counted.counts);
              };
          counted = counted.counts;
          placed = λ t h. ap (λ (i : List ℕ). get_or i (suc t) 0) placed ∙ get_d-index_of T places r.enough_places t (omega (arith, counted.counts));
        }

    pub scan-room : n < work
    scan-room = omega (arith, (count-readable b places work counted).enough_work, counted.counts)

    -- what is judged is what the table's own phases say
    pub scan-table : Bytes b → (v : View) → v.n ≡ n → v.order ≡ order_of b → v.before ≡ 0 → (j : Result (Unit {0}) Report) → said_as_paper j ≡ judged [] b index v work
        → said_as_paper j ≡ table_report (table_of b)
    scan-table bytes v many order alone j e = e ∙ stands-judged (scan-standing bytes) v many order alone scan-room

    pub scan-accepted : (j : Result (Unit {0}) Report) → said_as_paper j ≡ table_report (table_of b) → j ≡ (Ok (record {})) → AnswerOf (Ok n) b places work index
    unfolding checked_as_paper
    scan-accepted j e q =
        let g = gate-accepted b places work (after-scan ∙ sym e ∙ ap said_as_paper q) in
        record {
          answers = ap (report 0) counted.counts ∙ sym (ap (λ (o : Outcome). o.answer) g);
          indexes = placed ∙ sym (ap (λ (o : Outcome). o.index) g);
        }

    pub scan-judged : (j : Result (Unit {0}) Report) {r : Report} → said_as_paper j ≡ table_report (table_of b) → j ≡ Err r → {cleared : List ℕ} → cleared ≡ zeros places
        → AnswerOf (Err r) b places work cleared
    unfolding checked_as_paper
    scan-judged j e q c =
        let g = gate-refused b places work (after-scan ∙ sym e ∙ ap said_as_paper q) in
        record { answers = sym (ap (λ (o : Outcome). o.answer) g); indexes = c ∙ sym (ap (λ (o : Outcome). o.index) g) }

  -- ── in one pass ──

  pub sure-told : (index : List ℕ) {s : Sure} → SureOf s b places work index → {n : ℕ} → s ≡ Good n → AnswerOf (Ok n) b places work index
  unfolding checked_as_paper
  sure-told index told {n} p =
      let good : GoodOf n b places work index = subst (λ (x : Sure). SureOf x b places work index) p told in
      let g = gate-accepted b places work (meets-accepted b places work good.meets) in
      record {
        answers = ap (report 0) good.counted ∙ sym (ap (λ (o : Outcome). o.answer) g);
        indexes = good.placed ∙ sym (ap (λ (o : Outcome). o.index) g);
      }

  -- whatever is answered, the work slice ends all 0
  pub gate-work : zeros work ≡ (gate b places work).work
  unfolding gate
  gate-work = go (refusal b places work)
    where
      go : (o : Option Answer) → zeros work ≡ (outcome (table_of b) places work o).work
      go none = refl
      go (some a) = refl

-- slices have the lengths that they had
pub answer-lengths : {c : Result ℕ Report} {b : List ℕ} {places work places' work' : ℕ} {index : List ℕ} → AnswerOf c b places work index
    → places ≡ places' → work ≡ work' → AnswerOf c b places' work' index
answer-lengths {c} {b} {places} {work} {places'} {work'} {index} h e d =
    subst (λ (p : ℕ). AnswerOf c b p work' index) e (subst (λ (q : ℕ). AnswerOf c b places q index) d h)
