-- `values::numbers::in_window` meets its contract: the eight bytes, or the ninth's low bits above them.
use Prim.Native.Nat.{◌-◌}
use Rattle.values.proofs.Windows.{masked, read-inside, read-across, across-fits}
use Rattle.values.proofs.numbers.in_window.Goals as goal

pub returns-then-bits-left : goal.returns-then-bits-left
returns-then-bits-left c =
    let a = c.args in
    read-inside a.s.now a.from a.bits c.eight.ensures c.requires.1 (masked _ a.bits c.ones.ensures) c.if-bits-left.true

pub overflow_add-result : goal.overflow_add-result
overflow_add-result c =
    let a = c.args in
    let p = c.requires in
    record {
      fits =
          across-fits a.s.now a.from a.bits c.eight.ensures (masked _ (a.bits - (64 - a.from)) c.ones-2.ensures) p.1 c.if-bits-left.false p.3
          p.4 p.5;
    }

pub returns : goal.returns
returns c =
    let a = c.args in
    let p = c.requires in
    read-across a.s.now a.from a.bits c.eight.ensures (masked _ (a.bits - (64 - a.from)) c.ones-2.ensures) p.1 c.if-bits-left.false p.3
    p.4 p.5
