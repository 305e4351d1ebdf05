-- A test that follows from another at each element follows at all.
-- Assumes nothing.
use mathlib.Core.Path.{◌≡◌, refl}
use mathlib.Core.Bool.{Bool, true}
use mathlib.Core.List.{List, [], ◌∷◌}
use Rattle.paper.proofs.basics.Choices.{and_left, and_right, and-true}
use Rattle.paper.specs.rules.Choice.{every}

pub every-imp : {A : Type 0} (f g : A → Bool) → ((x : A) → f x ≡ true → g x ≡ true) → (xs : List A) → every f xs ≡ true → every g xs ≡ true
every-imp f g imp [] h = refl
every-imp f g imp (x ∷ xs) h = and-true (imp x (and_left (f x) (every f xs) h)) (every-imp f g imp xs (and_right (f x) (every f xs) h))
