-- `onepass::forth::put` meets its contract.
use mathlib.Core.Logic.{inl, inr}
use mathlib.Core.Path.{refl}
use Rattle.onepass.proofs.forth.put.Goals as goal

pub returns-then-s-eq-STRANGE : goal.returns-then-s-eq-STRANGE
returns-then-s-eq-STRANGE c = inl refl

pub returns : goal.returns
returns c = inr (record { told = c.if-s-eq-STRANGE.false; behind = refl; placed = refl; stated = refl })
