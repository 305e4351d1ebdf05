-- `glance::arrays::array` meets its contract.
use mathlib.Core.Bool.{not}
use mathlib.Core.Path.{ap}
use mathlib.Core.Logic.{inr}
use Rattle.glance.proofs.Elements.{array-waits, looks-array}
use Rattle.glance.proofs.Looking.{looks-awaits}
use Rattle.glance.proofs.arrays.array.Goals as goal

pub returns-then-index-ne-INTEGER : goal.returns-then-index-ne-INTEGER
returns-then-index-ne-INTEGER c = inr (looks-awaits _ _ _ (array-waits c.requires))

pub returns-then-not-is_sized : goal.returns-then-not-is_sized
returns-then-not-is_sized c = inr (looks-awaits _ _ _ (array-waits c.requires))

pub returns : goal.returns
returns c =
    looks-array _ _ _ c.requires c.read-n.ensures c.read.ensures c.state_of-index.ensures c.if-index-ne-INTEGER.false
    c.read-2.ensures c.state_of-element.ensures c.is_sized.ensures (ap not c.if-not-is_sized.false) c.many_bytes.ensures
