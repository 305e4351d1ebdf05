-- `rules::quick::once` meets its contract: by the offset.
use mathlib.Core.Logic.{inl, inr}
use mathlib.Core.Path.{refl}
use Rattle.rules.proofs.quick.once.Goals as goal

pub returns-then-off-eq0 : goal.returns-then-off-eq0
returns-then-off-eq0 c = inl refl

pub returns : goal.returns
returns c = inr (c.if-off-eq0.false, refl)
