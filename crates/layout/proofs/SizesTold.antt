-- What phase 6 asks of a size that the slice tells, by the cases of an answer.
-- Assumes nothing.
use Prim.Native.Nat.{ℕ, ◌≤◌}
use mathlib.Core.Bool.{false}
use mathlib.Core.Path.{◌≡◌, refl, sym, ap, ◌∙◌}
use Rattle.layout.specs.Told.{Recalled, sized, variable_told}
use Rattle.paper.specs.declared.Sized.{Sized}
use Rattle.paper.specs.declared.Sized.TheVariants.{Exact, NoSize, Overflow, Lost, TooFar}
use Rattle.paper.specs.rules.Choice.{is_some}
use Rattle.paper.specs.rules.Limits.{size_limit}
use Rattle.paper.specs.rules.Section.{covers_size}
use Rattle.paper.specs.rules.Size.{within}
use Rattle.sizes.proofs.Measured.{small_in, reaches, told-small, told-reaches}
use Rattle.sizes.specs.Measure.{Measures}

-- no answer but an exact size is one of 32 bits
pub small-none : (r : Sized) → ((n : ℕ) → r ≡ Exact n → ⊥) → false ≡ is_some (small_in r)
small-none (Exact n) other = absurd (other n refl)
small-none NoSize other = refl
small-none Overflow other = refl
small-none Lost other = refl
small-none TooFar other = refl

module _ (X : Recalled) (t : ℕ) {r r' : Sized} (is : r ≡ r') (m : Measures r (sized X t)) where
  pub small-told : small_in r' ≡ within (sized X t)
  small-told = sym (ap small_in is) ∙ told-small r (sized X t) m

  pub variable-told : is_some (small_in r') ≡ variable_told X t
  unfolding variable_told
  variable-told = ap is_some small-told

  pub covers-told : (size : ℕ) → size ≤ size_limit → reaches size r' ≡ covers_size size (sized X t)
  covers-told size h = sym (ap (reaches size) is) ∙ told-reaches size h r (sized X t) m
