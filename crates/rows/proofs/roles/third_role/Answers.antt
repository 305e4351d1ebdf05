-- `rows::roles::third_role` meets its contract: its column is the role of the third word.
use mathlib.Core.Path.{refl}
use Rattle.paper.specs.rules.Kind.{Row, rows}
use Rattle.kindrows.specs.Codes.{head_code, role_code}
use Rattle.kindrows.proofs.Columns.{column-is}
use Rattle.rows.proofs.roles.third_role.Goals as goal

pub returns : goal.returns
unfolding head_code rows
returns c = column-is head_code (λ (r : Row). role_code r.third_role) 65536 refl _ c.head_row.ensures c.column.ensures
