-- `rows::heads::third_allowed` meets its contract: the column's code stands for what the row says.
use mathlib.Core.Path.{refl, ◌∙◌}
use Rattle.paper.specs.rules.Kind.{Row, rows}
use Rattle.kindrows.specs.Codes.{values_code, head_code}
use Rattle.kindrows.proofs.Columns.{column-is}
use Rattle.rows.proofs.Members.{allowed-code}
use Rattle.rows.proofs.heads.third_allowed.Goals as goal

pub returns : goal.returns
unfolding head_code rows
returns c =
    c.allows.ensures
    ∙ allowed-code (λ (r : Row). r.third_values) refl _ _
    (column-is head_code (λ (r : Row). values_code r.third_values) 16777216 refl _ c.head_row.ensures c.column.ensures)
