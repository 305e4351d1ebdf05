-- Laws of `scan_report_behind`: what it is by what the header and the walk in code have said, and what a count says of a table behind a base.
-- Assumes nothing.
use Rattle.std.specs.Prelude.{Err, Ok, Result, ℕ}
use Prim.Native.Nat.{ℕ, ◌+◌, ◌-◌, ◌≤◌, ◌<◌}
use mathlib.Core.Path.{◌≡◌, refl, sym, ap, ◌∙◌, subst}
use mathlib.Core.Bool.{Bool, true, false, cond}
use mathlib.Core.List.{List}
use mathlib.Core.Option.{Option, none, some}
use native.Mathlib.Omega.{arith}
use borrow.Author.Tests.{ltb-false}
use lib.Dec.{ltb}
use lib.ListN.{length}
use Rattle.pairs.proofs.Headers.{behind_report-facts}
use Rattle.pairs.specs.Leaning.{BehindFacts}
use Rattle.header.specs.Behind.{HeaderBehind}
use Rattle.header.specs.Header.{SectionsBy}
use Rattle.header.specs.declared.first.Sections.{Sections}
use Rattle.paper.proofs.basics.Answers.{report-one}
use Rattle.paper.proofs.bytes.Sections.{flat-walk_from}
use Rattle.paper.proofs.gates.Gates.{or_else-none, naming-none, some≢none, some_one}
use Rattle.paper.specs.declared.Report.{Report}
use Rattle.paper.specs.rules.Answer.{Answer, report_at, report_as_paper}
use Rattle.paper.specs.rules.Choice.{or_else}
use Rattle.paper.specs.rules.Gate.{naming, walk_report}
use Rattle.paper.specs.rules.Header.{header_length}
use Rattle.pairs.specs.Lean.{behind_report, walk_behind}
use Rattle.paper.specs.rules.Limits.{type_limit}
use Rattle.paper.specs.rules.Walk.{records, records_in, type_words}
use Rattle.paper.specs.terms.Good.{WholeWalk}
use Rattle.scan.proofs.Findings.{behind_report-section, silent-records}
use Rattle.scan.proofs.Rests.{slices-none}
use Rattle.scan.specs.Behind.{walk_report_behind, count_behind, rest_report, scan_report_behind, CountBy, FoundBy, index_behind, ScanBehind}
use Rattle.scan.specs.Phase2.{TypeSection, counted, finding_of, behind, WalkDone}

-- ── by the header ──

module _ (before n : ℕ) (b : List ℕ) (places work : ℕ) {h : Result Sections Report} (e : HeaderBehind h before b) where
  pub behind-header : {r : Report} → h ≡ Err r → scan_report_behind before n b places work ≡ some (report_as_paper r)
  unfolding scan_report_behind
  behind-header p =
      ap (λ (o : Option Answer). or_else o (rest_report n b places work)) (subst (λ (x : Result Sections Report). HeaderBehind x before b) p e)

  module _ {s : Sections} (p : h ≡ Ok s) where
    sections : SectionsBy (behind_report before b) s b
    sections = subst (λ (x : Result Sections Report). HeaderBehind x before b) p e

    pub behind-section : TypeSection b s.types
    behind-section = behind_report-section before b sections.silent sections.types

    -- where phase 1 is silent, the rest decides
    pub behind-rest : (r : Result ℕ Report) → FoundBy r (rest_report n b places work) (count_behind n b)
        → FoundBy r (scan_report_behind before n b places work) (count_behind n b)
    unfolding scan_report_behind
    behind-rest r f =
        let silent : scan_report_behind before n b places work ≡ rest_report n b places work =
        ap (λ (o : Option ℕ). or_else (naming 0 o) (rest_report n b places work)) sections.silent in
        subst (λ (o : Option Answer). FoundBy r o (count_behind n b)) (sym silent) f

-- ── what a count says ──

-- phases 1 and 2 behind a base, and places enough
pub record ReadableBehind (before n : ℕ) (b : List ℕ) (places work : ℕ) : Type 0 where
  pub header : BehindFacts before b
  pub few : n ≤ type_limit
  pub walked : walk_behind n b ≡ records (records_in (walk_behind n b))
  pub section : WholeWalk (type_limit - n) (type_words b) (records_in (walk_behind n b))
  pub enough_places : count_behind n b < places
  pub enough_work : count_behind n b < work

-- a walk behind so many types that has nothing to report
walk-silent : (n : ℕ) (b : List ℕ) → walk_report_behind n b ≡ none → (n ≤ type_limit) × (walk_report (walk_behind n b) ≡ none)
unfolding walk_report_behind
walk-silent n b e = go (ltb type_limit n) refl e
  where
    go : (t : Bool) → ltb type_limit n ≡ t → cond t (some (report_at 8 (type_limit + 1) header_length)) (walk_report (walk_behind n b)) ≡ none
        → (n ≤ type_limit) × (walk_report (walk_behind n b) ≡ none)
    go true d e = absurd (some≢none e)
    go false d e = (ltb-false type_limit n d, e)

module _ (before n : ℕ) (b : List ℕ) (places work : ℕ) {m : ℕ} (c : CountBy m (scan_report_behind before n b places work) (count_behind n b)) where
  pub count-readable-behind : ReadableBehind before n b places work
  unfolding scan_report_behind walk_behind
  count-readable-behind =
      let one = or_else-none (naming 0 (behind_report before b)) _ c.silent in
      let two = or_else-none (walk_report_behind n b) _ one.1 in
      let walk = walk-silent n b two.0 in
      let whole = silent-records (walk_behind n b) walk.1 in
      let enough = slices-none (count_behind n b) places work two.1 in
      record {
        header = behind_report-facts before b (naming-none 0 (behind_report before b) one.0);
        few = walk.0;
        walked = whole;
        section = flat-walk_from _ _ _ (type_words b) _ whole;
        enough_places = enough.0;
        enough_work = enough.1;
      }

  pub count-done-behind : WalkDone b n m places
  unfolding scan_report_behind
  count-done-behind =
      let r = count-readable-behind in
      let one = or_else-none (naming 0 (behind_report before b)) _ c.silent in
      record {
        section = behind_report-section before b (naming-none 0 (behind_report before b) one.0) refl;
        finds = ap (λ w. behind n (finding_of w)) r.walked ∙ ap counted (sym c.counts);
        enough = omega (arith, r.enough_places, c.counts);
      }

-- ── any two results that the contract of `scan_behind` allows are the same ──

found-by-one : (s s' : Result ℕ Report) (due : Option Answer) (n : ℕ) → FoundBy s due n → FoundBy s' due n → s ≡ s'
found-by-one (Ok m) (Ok k) due n h g = ap Ok (h.counts ∙ sym g.counts)
found-by-one (Ok m) (Err r) due n h g = absurd (some≢none (sym g ∙ h.silent))
found-by-one (Err r) (Ok m) due n h g = absurd (some≢none (sym h ∙ g.silent))
found-by-one (Err r) (Err q) due n h g = ap Err (report-one r q (some_one (sym h ∙ g)))

pub scan-behind-one : {s s' : Result ℕ Report} {before : ℕ} {b : List ℕ} {n : ℕ} {index : List ℕ} {work : ℕ} {after after' : List ℕ}
    → ScanBehind s before b n index work after → ScanBehind s' before b n index work after' → (s ≡ s') × (after ≡ after')
scan-behind-one {s} {s'} {before} {b} {n} {index} {work} h k =
    let e = found-by-one s s' (scan_report_behind before n b (length index) work) (count_behind n b) h.found k.found in
    (e, h.left ∙ ap (λ (x : Result ℕ Report). index_behind x n b index) e ∙ sym k.left)
