-- What phase 3 says of one record, and which number each answer of the code is.
use Rattle.rules.specs.declared.phase.Due.TheVariants.{Head, Named, Tail}
use Rattle.rules.specs.declared.phase.Due.{Due}
use Rattle.std.specs.Prelude.{ℕ, not, List, [], ◌∷◌, None, Option as RustOption, Some}
use Rattle.std.proofs.Math.Option.{Option, none, some}
use Rattle.paper.specs.rules.Choice.{Rule, ◌when◌}
use Rattle.paper.specs.rules.Heads.{head_ok}
use Rattle.pairs.specs.Lean.{names_over}
use Rattle.paper.specs.rules.Table.{Record}
use Rattle.paper.specs.rules.Tails.{tail_ok}

abbrev pub due_as_paper : RustOption Due → Option ℕ
due_as_paper None = none
due_as_paper (Some Head) = some 10
due_as_paper (Some Named) = some 11
due_as_paper (Some Tail) = some 12

-- reports 10 to 12 of a record, with the strings of the base and its own table's
abbrev pub rules_of : List ℕ → List ℕ → Record → List Rule
rules_of base strings r = 10 when not (head_ok r) ∷ 11 when not (names_over base strings r) ∷ 12 when not (tail_ok r) ∷ []
