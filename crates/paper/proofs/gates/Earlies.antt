-- A report below 10: which phase has spoken, for which fact, of which record.
-- Assumes nothing.
use Prim.Native.Nat.{ℕ, ◌+◌, ◌≤◌, ◌<◌}
use mathlib.Core.Path.{◌≡◌}
use mathlib.Core.Bool.{Bool, true, false, ◌||◌}
use mathlib.Core.List.{List}
use mathlib.Core.Logic.{◌⊎◌, inl, inr, ⊎_elim}
use mathlib.Core.Option.{none, some}
use native.Mathlib.Omega.{arith}
use borrow.Author.Tests.{ltb-true}
use lib.Dec.{ltb}
use Rattle.paper.proofs.basics.Choices.{first_due-some}
use Rattle.paper.proofs.bytes.Blobs.{table_of-found}
use Rattle.paper.proofs.bytes.Headers.{header_report-facts}
use Rattle.paper.proofs.gates.Acceptance.{walk-records}
use Rattle.paper.proofs.gates.Gates.{or_else-some, naming-none}
use Rattle.paper.proofs.gates.Wheres.{naming-bare, said-number, says-table_report, phase2-stops}
use Rattle.paper.specs.rules.Answer.{Answer}
use Rattle.paper.specs.rules.Choice.{first_due}
use Rattle.paper.specs.terms.Early.{SpokenEarly, first, second, ninth}
use Rattle.paper.specs.rules.Gate.{phase1, phase2, slice_rules, short_slices, refusal}
use Rattle.paper.specs.terms.Good.{HeaderFacts}
use Rattle.paper.specs.rules.Header.{header_rules, header_report}
use Rattle.paper.specs.terms.Smallest.{DueFirst}
use Rattle.paper.specs.rules.Table.{count}
use Rattle.paper.specs.rules.Walk.{table_of}

-- one of two slices is short
either-short : (x y : Bool) → (x || y) ≡ true → (x ≡ true) ⊎ (y ≡ true)
either-short true y e = inl e
either-short false y e = inr e

module _ (b : List ℕ) (places work : ℕ) (a : Answer) where
  header-facts : phase1 b ≡ none → HeaderFacts b
  unfolding phase1
  header-facts one = header_report-facts b (naming-none 0 (header_report b) one)

  early-1 : phase1 b ≡ some a → SpokenEarly b places work a
  unfolding phase1 header_report
  early-1 one = let s = naming-bare (header_report b) a one in first (first_due-some (header_rules b) a.number s.0) s.1 s.2

  early-9 : phase1 b ≡ none → phase2 b ≡ none → short_slices (count (table_of b)) places work ≡ some a → SpokenEarly b places work a
  unfolding short_slices
  early-9 one two nine =
      let n = count (table_of b) in
      let s = naming-bare (first_due (slice_rules n places work)) a nine in
      let due : DueFirst a.number (slice_rules n places work) = first_due-some (slice_rules n places work) a.number s.0 in
      ⊎_elim (λ d. ninth (header-facts one) (table_of-found b (table_of b).records (walk-records b places work two)) (missing n d.1) d.0 s.1 s.2)
      (λ none_left. absurd none_left.1) due
    where
      missing : (n : ℕ) → (ltb places (n + 1) || ltb work (n + 1)) ≡ true → (places ≤ n) ⊎ (work ≤ n)
      missing n d =
          ⊎_elim (λ p. inl (omega (arith, ltb-true places (n + 1) p))) (λ w. inr (omega (arith, ltb-true work (n + 1) w)))
          (either-short (ltb places (n + 1)) (ltb work (n + 1)) d)

  pub refusal-early : refusal b places work ≡ some a → a.number < 10 → SpokenEarly b places work a
  unfolding refusal
  refusal-early e early =
      ⊎_elim early-1
      (λ one. ⊎_elim (λ two. let s = phase2-stops b a two in second (header-facts one.0) s.begins s.fault)
      (λ two. ⊎_elim (λ nine. early-9 one.0 two.0 nine)
      (λ nine. let late = said-number (λ (n : ℕ). 10 ≤ n) (says-table_report (table_of b)) nine.1 in absurd (omega arith))
      (or_else-some (short_slices (count (table_of b)) places work) _ two.1))
      (or_else-some (phase2 b) _ one.1))
      (or_else-some (phase1 b) _ e)
