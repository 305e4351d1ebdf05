-- `glance::stored::variable` meets its contract.
use mathlib.Core.Bool.{not}
use mathlib.Core.Path.{ap}
use mathlib.Core.Logic.{inl, inr}
use mathlib.Core.Path.{refl}
use Rattle.glance.proofs.Variables.{looks-variable}
use Rattle.glance.proofs.stored.variable.Goals as goal

pub returns-then-not-is_sized : goal.returns-then-not-is_sized
returns-then-not-is_sized c = inl refl

pub returns : goal.returns
returns c = inr (looks-variable _ _ _ c.requires c.read.ensures c.state_of-s.ensures c.is_sized.ensures (ap not c.if-not-is_sized.false))
