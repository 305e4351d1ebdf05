-- The four numbers of a name over a base, by the blob that holds it.
-- Assumes nothing.
use Rattle.std.specs.Prelude.{None, Option as RustOption, Some}
use Rattle.lean.specs.declared.questions.Lying.TheVariants.{InBase, InOwn}
use Rattle.lean.specs.declared.questions.Lying.{Lying}
use Prim.Native.Nat.{ℕ}
use mathlib.Core.Path.{◌≡◌, refl, sym, subst}
use mathlib.Core.Bool.{Bool, true, cond}
use mathlib.Core.List.{List}
use lib.ListN.{length}
use Rattle.abi.specs.Told.{part_over}
use Rattle.lean.specs.Asked.{LyingOf}
use Rattle.pairs.specs.Lean.{nameless_over, name_at_over, in_base, name_start_over}
use Rattle.paper.specs.rules.Answer.{Answer}

-- the numbers that are told of where a name lies
abbrev pub lying_numbers : RustOption Lying → Answer
lying_numbers (Some (InBase p)) = record { number = 0; inner = 0; t = p.start.0; p = p.length }
lying_numbers (Some (InOwn p)) = record { number = 0; inner = 1; t = p.start.0; p = p.length }
lying_numbers None = record { number = 1; inner = 0; t = 0; p = 0 }

-- told whether there is no name, and whether the base holds it
abbrev numbers : Bool → Bool → ℕ → ℕ → Answer
numbers none held start long = record { number = cond none 1 0; inner = cond none 0 (cond held 0 1); t = start; p = long }

module _ (base own : List ℕ) (off : ℕ) where
  start_none : nameless_over base own off ≡ true → 0 ≡ name_start_over base own off
  unfolding name_start_over
  start_none e = rw e refl

  long-none : nameless_over base own off ≡ true → 0 ≡ length (name_at_over base own off)
  unfolding name_at_over
  long-none e = rw e refl

  lying-numbers : (r : RustOption Lying) → LyingOf r base own off → lying_numbers r ≡ part_over base own off
  lying-numbers (Some (InBase p)) h = λ i. numbers (sym h.0 i) (sym h.1 i) (h.2.starts i) (h.2.long i)
  lying-numbers (Some (InOwn p)) h = λ i. numbers (sym h.0 i) (sym h.1 i) (h.2.starts i) (h.2.long i)
  lying-numbers None h = λ i. numbers (sym h i) (in_base base own off) (start_none h i) (long-none h i)

  -- as it is found
  pub lying-told : {r r' : RustOption Lying} → r ≡ r' → LyingOf r base own off → lying_numbers r' ≡ part_over base own off
  lying-told {r} {r'} e h = lying-numbers r' (subst (λ (x : RustOption Lying). LyingOf x base own off) e h)
