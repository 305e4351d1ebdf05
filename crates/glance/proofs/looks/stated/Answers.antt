-- `glance::looks::stated` meets its contract.
use mathlib.Core.Logic.{inl, inr}
use mathlib.Core.Path.{refl}
use Rattle.glance.proofs.looks.stated.Goals as goal

pub returns-then-z-ge268435456 : goal.returns-then-z-ge268435456
returns-then-z-ge268435456 c = inl refl

pub returns : goal.returns
returns c = inr (c.if-z-ge268435456.false, refl)
