-- Small tests and searches over lists, which the rules are written with.
use Rattle.std.specs.Prelude.{ℕ, zero, suc, Bool, true, false, not, ◌&&◌, ◌||◌, cond, List, [], ◌∷◌, ◌++◌, eqb}
use Rattle.std.proofs.Math.Option.{Option, none, some}

abbrev pub differ : ℕ → ℕ → Bool
differ m n = not (eqb m n)

abbrev pub same : List ℕ → List ℕ → Bool
same [] [] = true
same [] (y ∷ ys) = false
same (x ∷ xs) [] = false
same (x ∷ xs) (y ∷ ys) = eqb x y && same xs ys

module _ {A : Type 0} where
  -- the test passes at every element
  abbrev pub every : (A → Bool) → List A → Bool
  every f [] = true
  every f (x ∷ xs) = f x && every f xs

  -- the test passes at some element
  abbrev pub any : (A → Bool) → List A → Bool
  any f [] = false
  any f (x ∷ xs) = f x || any f xs

  abbrev pub is_empty : List A → Bool
  is_empty [] = true
  is_empty (x ∷ xs) = false

  abbrev pub is_some : Option A → Bool
  is_some none = false
  is_some (some a) = true

  -- the first answer that there is
  abbrev pub or_else : Option A → Option A → Option A
  or_else (some a) o = some a
  or_else none o = o

  -- a list, n times over
  abbrev pub times : ℕ → List A → List A
  times zero xs = []
  times (suc n) xs = xs ++ times n xs

abbrev pub member : ℕ → List ℕ → Bool
member n xs = any (eqb n) xs

-- a report's number, and whether it is due
infix 70 ◌when◌
pub data Rule : Type 0 where
  ◌when◌ : ℕ → Bool → Rule

-- "the smallest number": the first of the rules, in their order, that is due
abbrev pub first_due : List Rule → Option ℕ
first_due [] = none
first_due (n when due ∷ rules) = cond due (some n) (first_due rules)
