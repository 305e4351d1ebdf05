-- `rows::roles::size_rule` meets its contract: its column is the rule for the size.
use mathlib.Core.Path.{refl}
use Rattle.paper.specs.rules.Kind.{Row, rows}
use Rattle.kindrows.specs.Codes.{head_code, size_code}
use Rattle.kindrows.proofs.Columns.{column-is}
use Rattle.rows.proofs.roles.size_rule.Goals as goal

pub returns : goal.returns
unfolding head_code rows
returns c = column-is head_code (λ (r : Row). size_code r.size) 1 refl _ c.head_row.ensures c.column.ensures
