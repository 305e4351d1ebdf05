-- `onepass::forth::step` meets its contract: an arm for each sort of info word.
use mathlib.Core.Logic.{inl}
use mathlib.Core.Path.{refl}
use native.Mathlib.Omega.{arith}
use Rattle.onepass.proofs.Extents.{long-bare, long-int, stepped, stepped-part}
use Rattle.onepass.proofs.forth.step.Goals as goal

pub returns-then-room-lt12 : goal.returns-then-room-lt12
returns-then-room-lt12 c = inl refl

pub returns-then-room-lt16 : goal.returns-then-room-lt16
returns-then-room-lt16 c = inl refl

pub returns-in-33554432 : goal.returns-in-33554432
returns-in-33554432 c =
    let a = c.args in
    stepped-part a.b.now (stepped c.read.ensures (long-bare c.in-33554432.is) (omega (arith, c.if-room-lt12.false)) c.bare-s.ensures c.put.ensures)

pub returns-else-room-lt16 : goal.returns-else-room-lt16
returns-else-room-lt16 c =
    let a = c.args in
    stepped-part a.b.now (stepped c.read.ensures (long-int c.in-16777216.is) (omega (arith, c.if-room-lt16.false)) c.int-s.ensures c.put-in-16777216.ensures)

pub returns-in_default : goal.returns-in_default
returns-in_default c =
    let a = c.args in
    stepped-part a.b.now c.long.ensures
