-- `rows::roles::held_place` meets its contract: its column is the place.
use mathlib.Core.Path.{refl}
use Rattle.paper.specs.rules.Kind.{rows}
use Rattle.kindrows.specs.Codes.{head_code, held_place}
use Rattle.kindrows.proofs.Columns.{column-is}
use Rattle.rows.proofs.roles.held_place.Goals as goal

pub returns : goal.returns
unfolding head_code rows
returns c = column-is head_code held_place 281474976710656 refl _ c.head_row.ensures c.column.ensures
