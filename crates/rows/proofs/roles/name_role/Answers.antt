-- `rows::roles::name_role` meets its contract: its column is the role of the name.
use mathlib.Core.Path.{refl}
use Rattle.paper.specs.rules.Kind.{Row, rows}
use Rattle.kindrows.specs.Codes.{head_code, name_code}
use Rattle.kindrows.proofs.Columns.{column-is}
use Rattle.rows.proofs.roles.name_role.Goals as goal

pub returns : goal.returns
unfolding head_code rows
returns c = column-is head_code (λ (r : Row). name_code r.name) 256 refl _ c.head_row.ensures c.column.ensures
