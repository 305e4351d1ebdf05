-- `glance::protos::function` meets its contract.
use mathlib.Core.Logic.{inl, inr}
use mathlib.Core.Path.{refl}
use Rattle.glance.proofs.ParametersSeen.{looks-function}
use Rattle.glance.proofs.protos.function.Goals as goal

pub returns-then-state_of-ne-NAMED : goal.returns-then-state_of-ne-NAMED
returns-then-state_of-ne-NAMED c = inl refl

pub returns : goal.returns
returns c = inr (looks-function _ _ _ c.requires c.read.ensures c.state_of.ensures c.if-state_of-ne-NAMED.false)
