-- `glance::looks::int_whole` meets its contract.
use mathlib.Core.Path.{refl}
use Rattle.glance.proofs.Looking.{int-shifted, int-odd, int-width}
use Rattle.glance.proofs.looks.int_whole.Goals as goal

pub returns-then-word-ne0 : goal.returns-then-word-ne0
returns-then-word-ne0 c = int-shifted _ _ c.if-word-ne0.true

pub returns-in-8 : goal.returns-in-8
returns-in-8 c = int-width _ _ c.if-word-ne0.false refl c.in-8.is

pub returns-in_default : goal.returns-in_default
returns-in_default c = int-odd _ _ c.if-word-ne0.false refl c.in_default.in_default-own.rest.1
