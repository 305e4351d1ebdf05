-- `rows::roles::only_numbers` meets its contract: six bytes of a row are roles, and 0 is that of a plain number.
use Prim.Native.Nat.{ℕ, ◌+◌, ◌/◌, ◌%◌}
use mathlib.Core.Bool.{Bool}
use mathlib.Core.Path.{refl, ap, ◌∙◌}
use lib.Dec.{eqb}
use Rattle.paper.specs.rules.Kind.{Row, rows}
use Rattle.kindrows.specs.Codes.{tail_code}
use Rattle.rows.specs.Numbers.{only_numbers}
use Rattle.kindrows.proofs.Columns.{row_of-agree}
use Rattle.rows.proofs.roles.only_numbers.Goals as goal

abbrev no_role : ℕ → Bool
no_role row = eqb (row / 4294967296 % 16777216 + row % 16777216) 0

pub returns : goal.returns
unfolding tail_code rows
returns c = ap no_role c.tail_row-row.ensures ∙ row_of-agree (λ (r : Row). no_role (tail_code r)) only_numbers refl _
