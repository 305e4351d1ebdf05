-- Laws of the leaning check: what is answered at each step of the code is what the definition answers.
-- Assumes nothing.
use Rattle.std.specs.Prelude.{Err, Ok, Result, ℕ}
use Rattle.paper.specs.declared.LeanError.TheVariants.{BaseRefused, OrdersDiffer, Refused}
use Rattle.paper.specs.declared.LeanError.{LeanError}
use Prim.Native.Nat.{ℕ, ◌≤◌}
use mathlib.Core.Path.{◌≡◌, refl, sym, ap, ◌∙◌, subst}
use mathlib.Core.Bool.{Bool, true, false}
use mathlib.Core.List.{List, [], ◌∷◌}
use mathlib.Core.Option.{Option, none, some}
use native.Mathlib.Omega.{arith}
use lib.ListN.{length}
use Rattle.gate.proofs.Demands.{refused-report, refused-index, accepted-count}
use Rattle.gate.specs.Check.{CheckOf}
use Rattle.lean.proofs.Indexes.{index-over}
use Rattle.lean.proofs.Shows.{pair-judged}
use Rattle.lean.specs.Leans.{AfterBase, LeanAnswer}
use Rattle.pairs.proofs.Acceptance.{early_report, early-first, early-readable}
use Rattle.pairs.proofs.Pairs.{count-over}
use Rattle.pairs.specs.Lean.{behind_report, walk_behind, other_opening, own_records, table_over, lean_table_report, lean_refusal, index_over, lean_outcome, lean_gate}
use Rattle.pairs.specs.Leaning.{PairReadable}
use Rattle.paper.proofs.Outcomes.{gate-accepted}
use Rattle.paper.proofs.gates.Acceptance.{accepted-meets}
use Rattle.paper.proofs.gates.Answered.{checked-accepted}
use Rattle.paper.specs.rules.Answer.{Answer, accepted, report, checked_as_paper, leaned_as_paper}
use Rattle.paper.specs.rules.Choice.{◌when◌, first_due, or_else}
use Rattle.paper.specs.rules.Gate.{naming, walk_report, short_slices, refusal, zeros, Outcome}
use Rattle.paper.specs.rules.Header.{order_of}
use Rattle.paper.specs.rules.Join.{refused_inside}
use Rattle.paper.specs.rules.Limits.{type_limit}
use Rattle.paper.specs.rules.Table.{count}
use Rattle.paper.specs.rules.Walk.{table_of}
use Rattle.paper.specs.declared.Report.{Report}
use Rattle.paper.specs.terms.Fit.{Bytes}
use Rattle.phases.specs.Said.{said_as_paper, judged}
use Rattle.scan.proofs.Rests.{walk_report-few}
use Rattle.scan.specs.Behind.{count_behind, scan_report_behind, CountBy, FoundBy, index_behind, ScanBehind}
use Rattle.views.specs.declared.View.{View}

-- the same for slices that are as long as they were
pub base_kept : {base own index : List ℕ} {n p p' w w' : ℕ} → p' ≡ p → w' ≡ w → AfterBase base own n index p w → AfterBase base own n index p' w'
base_kept {base} {own} {index} {n} {p} {p'} {w} e f a =
    subst (λ (k : ℕ). AfterBase base own n index p' k) (sym f) (subst (λ (k : ℕ). AfterBase base own n index k w) (sym e) a)

pub answer-kept : {l : Result ℕ LeanError} {base own index : List ℕ} {p p' w w' : ℕ} → p' ≡ p → w' ≡ w → LeanAnswer l base own p' w' index → LeanAnswer l base own p w index
answer-kept {l} {base} {own} {index} {p} {p'} {w} {w'} e f a =
    subst (λ (k : ℕ). LeanAnswer l base own p k index) f (subst (λ (k : ℕ). LeanAnswer l base own k w' index) e a)

-- the first of two answers, where it is there, and the second, where it is not
first_said : {x : Option Answer} {o : Option Answer} → x ≡ o → (y : Option Answer) → or_else x y ≡ or_else o y
first_said e y = ap (λ (z : Option Answer). or_else z y) e

module _ (base own : List ℕ) (places work : ℕ) where
  -- ── what the definition answers, by what it says ──

  said-refused : {a : Answer} → lean_refusal base own places work ≡ some a → lean_gate base own places work ≡ lean_outcome base own places work (some a)
  unfolding lean_gate
  said-refused e = ap (lean_outcome base own places work) e

  said-accepted : lean_refusal base own places work ≡ none → lean_gate base own places work ≡ lean_outcome base own places work none
  unfolding lean_gate
  said-accepted e = ap (lean_outcome base own places work) e

  -- whatever is answered, the work slice ends all 0
  pub lean-work : zeros work ≡ (lean_gate base own places work).work
  unfolding lean_gate
  lean-work = go (lean_refusal base own places work)
    where
      go : (o : Option Answer) → zeros work ≡ (lean_outcome base own places work o).work
      go none = refl
      go (some a) = refl

  -- ── 25 and 26 ──

  early-refused : {a : Answer} → early_report base own places work ≡ some a → lean_refusal base own places work ≡ some a
  early-refused e = early-first base own places work ∙ first_said e (lean_table_report base own)

  -- after the base's check
  module _ {c : Result ℕ Report} {index left : List ℕ} (h : CheckOf c base places work index left) where
    pub base-refused : {r : Report} → c ≡ Err r → LeanAnswer (Err (BaseRefused r)) base own places work index
    unfolding leaned_as_paper early_report
    base-refused {r} p =
        let g = said-refused (early-refused (first_said (ap (refused_inside 25) (refused-report h r p)) _)) in
        record {
          answers = sym (ap (λ (o : Outcome). o.answer) g);
          indexes = refused-index h r p ∙ sym (ap (λ (o : Outcome). o.index) g);
        }

    module _ {n : ℕ} (p : c ≡ Ok n) where
      base-accepted : refusal base places work ≡ none
      base-accepted = (checked-accepted base places work (ap checked_as_paper (sym p) ∙ h.told.answers)).0

      base-silent : refused_inside 25 (refusal base places work) ≡ none
      base-silent = ap (refused_inside 25) base-accepted

      pub orders-differ : {z : Bool} → z ≡ other_opening base own → z ≡ true → {cleared : List ℕ} → cleared ≡ zeros places
          → LeanAnswer (Err OrdersDiffer) base own places work cleared
      unfolding leaned_as_paper early_report
      orders-differ {z} q e clear =
          let due : naming 0 (first_due (26 when other_opening base own ∷ [])) ≡ some (report 26 0) =
          ap (λ (b : Bool). naming 0 (first_due (26 when b ∷ []))) (sym q ∙ e) in
          let g = said-refused (early-refused (first_said base-silent _ ∙ first_said due _)) in
          record { answers = sym (ap (λ (o : Outcome). o.answer) g); indexes = clear ∙ sym (ap (λ (o : Outcome). o.index) g) }

      pub after-base : Bytes base → {z : Bool} → z ≡ other_opening base own → z ≡ false → AfterBase base own n index places work
      after-base bytes q e =
          record {
            base_bytes = bytes;
            accepted = base-accepted;
            counted = accepted-count h n p;
            indexed = h.told.indexes ∙ ap (λ (o : Outcome). o.index) (gate-accepted base places work base-accepted);
            one-order = sym q ∙ e;
          }

  -- ── behind the base ──

  module _ {n : ℕ} {index : List ℕ} (a : AfterBase base own n index places work) where
    pub few : n ≤ type_limit
    few = omega (arith, a.counted, (accepted-meets base places work a.accepted).readable.section.few_found)

    -- phases 1 and 2 and the places lent, as `scan_behind` says them
    scan-says : early_report base own places work ≡ scan_report_behind (length base) n own places work
    unfolding early_report scan_report_behind own_records
    scan-says =
        first_said (ap (refused_inside 25) a.accepted) _
        ∙ first_said (ap (λ (b : Bool). naming 0 (first_due (26 when b ∷ []))) a.one-order) _
        ∙ ap (λ (m : ℕ). or_else (naming 0 (behind_report (length base) own)) (or_else (walk_report (walk_behind (count (table_of base)) own)) (short_slices m places work)))
        (count-over base own)
        ∙ ap (λ (m : ℕ). or_else (naming 0 (behind_report (length base) own)) (or_else (walk_report (walk_behind m own)) (short_slices (count_behind m own) places work)))
        (sym a.counted)
        ∙ ap (λ (o : Option Answer). or_else (naming 0 (behind_report (length base) own)) (or_else o (short_slices (count_behind n own) places work)))
        (sym (walk_report-few own n few))

    module _ (s : Result ℕ Report) {after : List ℕ} (found : ScanBehind s (length base) own n index work after) (long : length index ≡ places) where
      found_here : FoundBy s (scan_report_behind (length base) n own places work) (count_behind n own)
      found_here = subst (λ (k : ℕ). FoundBy s (scan_report_behind (length base) n own k work) (count_behind n own)) long found.found

      pub scan-refused : {r : Report} → s ≡ Err r → LeanAnswer (Err (Refused r)) base own places work after
      unfolding leaned_as_paper
      scan-refused {r} p =
          let due = subst (λ (x : Result ℕ Report). FoundBy x (scan_report_behind (length base) n own places work) (count_behind n own)) p found_here in
          let g = said-refused (early-refused (scan-says ∙ due)) in
          record {
            answers = sym (ap (λ (o : Outcome). o.answer) g);
            indexes = found.left ∙ ap (λ (x : Result ℕ Report). index_behind x n own index) p ∙ ap zeros long ∙ sym (ap (λ (o : Outcome). o.index) g);
          }

      module _ {m : ℕ} (p : s ≡ Ok m) where
        counts : CountBy m (scan_report_behind (length base) n own places work) (count_behind n own)
        counts = subst (λ (x : Result ℕ Report). FoundBy x (scan_report_behind (length base) n own places work) (count_behind n own)) p found_here

        readable : PairReadable base own places work
        readable = early-readable base own places work (scan-says ∙ counts.silent)

        many : m ≡ count (table_over base own)
        unfolding own_records
        many = counts.counts ∙ ap (λ (k : ℕ). count_behind k own) a.counted ∙ sym (count-over base own)

        indexed : after ≡ index_over base own places
        unfolding own_records
        indexed =
            found.left ∙ ap (λ (x : Result ℕ Report). index_behind x n own index) p
            ∙ (λ i. index_behind (Ok m) (a.counted i) own (a.indexed i))
            ∙ index-over base own places

        -- what is judged of the pair is what the phases over both say, and nothing was said before
        table-says : Bytes own → (v : View) → v.n ≡ m → v.order ≡ order_of own → v.before ≡ n → (j : Result (Unit {0}) Report) → said_as_paper j ≡ judged base own after v work
            → lean_refusal base own places work ≡ said_as_paper j
        table-says bytes v e o b j says =
            early-first base own places work
            ∙ first_said (scan-says ∙ counts.silent) (lean_table_report base own)
            ∙ sym (pair-judged base own places work readable a.base_bytes bytes v (e ∙ many) o (b ∙ a.counted))
            ∙ ap (λ (i : List ℕ). judged base own i v work) (sym indexed)
            ∙ sym says

        module _ (bytes : Bytes own) (v : View) (e : v.n ≡ m) (o : v.order ≡ order_of own) (b : v.before ≡ n) (j : Result (Unit {0}) Report)
            (says : said_as_paper j ≡ judged base own after v work) where
          pub pair-accepted : j ≡ (Ok (record {})) → LeanAnswer (Ok m) base own places work after
          unfolding leaned_as_paper
          pair-accepted q =
              let g = said-accepted (table-says bytes v e o b j says ∙ ap said_as_paper q) in
              record {
                answers = ap accepted many ∙ sym (ap (λ (o : Outcome). o.answer) g);
                indexes = indexed ∙ sym (ap (λ (o : Outcome). o.index) g);
              }

          pub pair-refused : {r : Report} → j ≡ Err r → {cleared : List ℕ} → cleared ≡ zeros places → LeanAnswer (Err (Refused r)) base own places work cleared
          unfolding leaned_as_paper
          pair-refused q clear =
              let g = said-refused (table-says bytes v e o b j says ∙ ap said_as_paper q) in
              record { answers = sym (ap (λ (o : Outcome). o.answer) g); indexes = clear ∙ sym (ap (λ (o : Outcome). o.index) g) }
