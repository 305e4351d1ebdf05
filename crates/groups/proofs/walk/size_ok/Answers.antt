-- `groups::walk::size_ok` meets its contract: the least size of the sort, and a multiple of 4.
use mathlib.Core.Path.{refl}
use Rattle.groups.proofs.Rows.{size_small, size-enough}
use Rattle.groups.proofs.walk.size_ok.Goals as goal

pub returns-then-size-least : goal.returns-then-size-least
returns-then-size-least c = size_small _ _ c.row_of-least.ensures c.if-size-least.true

pub returns : goal.returns
returns c = size-enough _ _ c.row_of-least.ensures c.if-size-least.false refl
