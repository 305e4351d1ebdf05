-- Report 12 of a prototype, by the bytes of its parameters.
use Rattle.std.specs.Prelude.{ℕ, ◌*◌, Bool, List}
use Rattle.paper.specs.terms.Reading.{words_from}
use Rattle.paper.specs.rules.Tails.{parameters_in, voids_last}
use Rattle.paper.specs.declared.Order.{Order}

-- so many parameters from a place on: one of type 0 is last and has name 0
unfoldable pub voids_last_from : Order → List ℕ → ℕ → ℕ → Bool
voids_last_from order s p n = voids_last (parameters_in (words_from order s p (2 * n)))
