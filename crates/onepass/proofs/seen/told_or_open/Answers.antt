-- `onepass::seen::told_or_open` meets its contract.
use mathlib.Core.Logic.{inl, inr}
use mathlib.Core.Path.{refl}
use Rattle.onepass.proofs.seen.told_or_open.Goals as goal

pub returns-then-s-eq-STRANGE : goal.returns-then-s-eq-STRANGE
returns-then-s-eq-STRANGE c = inl refl

pub returns : goal.returns
returns c = inr (c.if-s-eq-STRANGE.false, refl)
