-- `glance::looks::pointer` meets its contract.
use mathlib.Core.Logic.{inl, inr}
use mathlib.Core.Path.{refl}
use Rattle.glance.proofs.Looking.{looks-pointer}
use Rattle.glance.proofs.looks.pointer.Goals as goal

pub returns-then-behind_of-eq0 : goal.returns-then-behind_of-eq0
returns-then-behind_of-eq0 c = inl refl

pub returns : goal.returns
returns c = inr (looks-pointer _ _ _ c.requires c.read.ensures c.behind_of.ensures c.if-behind_of-eq0.false)
