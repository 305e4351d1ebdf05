-- What an answer of the size question says of an exact size, where 21 and 22 do not arise.
use Rattle.std.specs.Prelude.{ℕ, ◌≡◌, Bool, true, false, ltb}
use Rattle.std.proofs.Math.Option.{Option, none, some}
use Rattle.paper.specs.rules.Limits.{size_limit}
use Rattle.paper.specs.rules.Size.{within}
use Rattle.paper.specs.declared.Sized.{Sized}
use Rattle.paper.specs.declared.Sized.TheVariants.{Exact, NoSize, Overflow, Lost, TooFar}

-- a size above the limit
abbrev pub overflows : Option ℕ → Bool
overflows none = false
overflows (some s) = ltb size_limit s

abbrev pub Measures : Sized → Option ℕ → Type 0
Measures (Exact s) x = (x ≡ some s) × (within x ≡ some s)
Measures NoSize x = x ≡ none
Measures Overflow x = overflows x ≡ true
Measures Lost x = ⊥
Measures TooFar x = ⊥
