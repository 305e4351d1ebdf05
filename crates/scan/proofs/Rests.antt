-- Laws of `rest_report`: what it is by what the walk in code has said; and that behind no types it is phase 2 and the places of a table by itself.
-- Assumes nothing.
use Rattle.std.specs.Prelude.{Err, Ok, Result, ℕ}
use Prim.Native.Nat.{ℕ, ◌+◌, ◌≤◌, ◌<◌}
use mathlib.Core.Path.{◌≡◌, refl, sym, ap, ap₂, ◌∙◌}
use mathlib.Core.Bool.{Bool, true, ◌||◌}
use mathlib.Core.List.{List, [], ◌∷◌}
use mathlib.Core.Option.{Option, none, some}
use native.Mathlib.Omega.{arith}
use borrow.Author.Tests.{lt-ltb, le-ltb, ltb-false}
use lib.Dec.{ltb}
use lib.ListN.{length}
use Rattle.paper.proofs.basics.Choices.{or_left, or_right, or-false, false-or, first_due-none}
use Rattle.paper.proofs.gates.Gates.{naming-none}
use Rattle.paper.specs.rules.Answer.{Answer, report, report_at, report_as_paper}
use Rattle.paper.specs.rules.Choice.{◌when◌, first_due, or_else}
use Rattle.paper.specs.rules.Gate.{naming, walk_report, phase2, slice_rules, short_slices}
use Rattle.paper.specs.rules.Header.{header_length}
use Rattle.pairs.specs.Lean.{walk_behind}
use Rattle.paper.specs.rules.Limits.{type_limit}
use Rattle.paper.specs.rules.Table.{count}
use Rattle.paper.specs.rules.Walk as paper
use Rattle.paper.specs.rules.Walk.{records_in, walk, table_of}
use Rattle.paper.specs.declared.Report.{Report}
use Rattle.scan.proofs.Findings.{behind-records, behind-silent, behind-report}
use Rattle.scan.specs.Behind.{walk_report_behind, count_behind, rest_report, CountBy}
use Rattle.scan.specs.Phase2.{counted, walk_finds, walked_as_paper}

-- enough places for n types
pub slices-enough : (n places work : ℕ) → n < places → n < work → short_slices n places work ≡ none
unfolding short_slices
slices-enough n places work h k =
    ap (λ (t : Bool). naming 0 (first_due (9 when t ∷ []))) (false-or (le-ltb places (n + 1) (omega arith)) (le-ltb work (n + 1) (omega arith)))

-- and back
pub slices-none : (n places work : ℕ) → short_slices n places work ≡ none → (n < places) × (n < work)
unfolding short_slices
slices-none n places work e =
    let due = (first_due-none (slice_rules n places work) (naming-none 0 _ e)).0 in
    let enough = or-false (ltb places (n + 1)) (ltb work (n + 1)) due in
    (omega (arith, ltb-false places (n + 1) enough.0), omega (arith, ltb-false work (n + 1) enough.1))

-- where there is room for a type, the walk decides
pub walk_report-few : (b : List ℕ) (first : ℕ) → first ≤ type_limit → walk_report_behind first b ≡ walk_report (walk_behind first b)
unfolding walk_report_behind
walk_report-few b first few = rw (le-ltb _ _ few) refl

module _ (b : List ℕ) (first places work : ℕ) where
  -- ── by the walk ──

  -- no room for any type
  pub rest-full : type_limit < first → rest_report first b places work ≡ some (report_at 8 (type_limit + 1) header_length)
  unfolding walk_report_behind
  rest-full h = rw (lt-ltb _ _ h) refl

  module _ (few : first ≤ type_limit) (w : Result ℕ Report) (f : walked_as_paper w ≡ walk_finds first b) where
    pub rest-stopped : {r : Report} → w ≡ Err r → rest_report first b places work ≡ some (report_as_paper r)
    rest-stopped q =
        ap (λ (o : Option Answer). or_else o (short_slices (count_behind first b) places work))
        (walk_report-few b first few ∙ behind-report first (walk_behind first b) (sym f ∙ ap walked_as_paper q))

    module _ {n : ℕ} (q : w ≡ Ok n) where
      found : walk_finds first b ≡ counted n
      found = sym f ∙ ap walked_as_paper q

      left : rest_report first b places work ≡ short_slices n places work
      left =
          ap₂ (λ (o : Option Answer) (m : ℕ). or_else o (short_slices m places work)) (walk_report-few b first few ∙ behind-silent first (walk_behind first b) found)
          (behind-records first (walk_behind first b) found).1

      nine : (ltb places (n + 1) || ltb work (n + 1)) ≡ true → rest_report first b places work ≡ some (report 9 0)
      unfolding short_slices
      nine due = left ∙ ap (λ (t : Bool). naming 0 (first_due (9 when t ∷ []))) due

      pub rest-places : places ≤ n → rest_report first b places work ≡ some (report 9 0)
      rest-places h = nine (or_left (ltb work (n + 1)) (lt-ltb places (n + 1) (omega arith)))

      pub rest-work : work ≤ n → rest_report first b places work ≡ some (report 9 0)
      rest-work h = nine (or_right (ltb places (n + 1)) (lt-ltb work (n + 1) (omega arith)))

      pub rest-count : n < places → n < work → CountBy n (rest_report first b places work) (count_behind first b)
      rest-count h k = record { silent = left ∙ slices-enough n places work h k; counts = sym (behind-records first (walk_behind first b) found).1 }

-- ── behind no types ──

pub walk_behind-alone : (b : List ℕ) → walk_behind 0 b ≡ walk b
unfolding walk_behind walk
walk_behind-alone b = refl

pub count_behind-alone : (b : List ℕ) → count_behind 0 b ≡ count (table_of b)
unfolding table_of
count_behind-alone b =
    let same : 0 + length (records_in (walk_behind 0 b)) ≡ length (records_in (walk_behind 0 b)) = omega arith in
    same ∙ ap (λ (w : paper.Walked). length (records_in w)) (walk_behind-alone b)

walk_report-alone : (b : List ℕ) → walk_report_behind 0 b ≡ phase2 b
unfolding walk_report_behind phase2
walk_report-alone b = ap walk_report (walk_behind-alone b)

pub rest_report-alone : (b : List ℕ) (places work : ℕ) → rest_report 0 b places work ≡ or_else (phase2 b) (short_slices (count (table_of b)) places work)
rest_report-alone b places work =
    ap₂ (λ (o : Option Answer) (n : ℕ). or_else o (short_slices n places work)) (walk_report-alone b) (count_behind-alone b)
