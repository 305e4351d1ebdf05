-- Which number bytes spell in decimal: digits alone, at least one, and a value that 32 bits hold.
use Rattle.std.specs.Prelude.{ℕ, ◌+◌, ◌*◌, ◌-◌, Bool, true, cond, not, ◌&&◌, List, [], ◌∷◌, Option, None, Some, ltb}
use Rattle.paper.specs.rules.Choice.{is_empty}
use Rattle.paper.specs.rules.Name.{is_digit}

unfoldable pub are_digits : List ℕ → Bool
are_digits [] = true
are_digits (c ∷ s) = is_digit c && are_digits s

-- the value of digits behind those that are read already
unfoldable pub value_from : ℕ → List ℕ → ℕ
value_from v [] = v
value_from v (c ∷ s) = value_from (v * 10 + (c - 48)) s

unfoldable pub number_of : List ℕ → Option ℕ
number_of s = cond (are_digits s && not (is_empty s) && ltb (value_from 0 s) 4294967296) (Some (value_from 0 s)) None
