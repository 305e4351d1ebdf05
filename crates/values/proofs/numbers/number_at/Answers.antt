-- `values::numbers::number_at` meets its contract: a short record is read whole, of another a part of eight bytes or more.
use native.Mathlib.Omega.{arith}
use Rattle.values.proofs.Windows.{masked, read-few, read-part}
use Rattle.values.proofs.numbers.number_at.Goals as goal

pub returns-then-s-lt8 : goal.returns-then-s-lt8
returns-then-s-lt8 c =
    let a = c.args in
    read-few a.s.now a.from a.bits c.few.ensures (masked _ a.bits c.ones.ensures)

pub earlier-place-requires : goal.earlier-place-requires
earlier-place-requires c = tt

pub returns : goal.returns
returns c =
    let a = c.args in
    read-part a.s.now c.earlier-place.result a.from a.bits (omega arith) c.in_window.ensures
