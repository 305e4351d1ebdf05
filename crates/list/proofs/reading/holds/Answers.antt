-- `list::reading::holds` meets its contract: the difference is asked where there is room for a header.
use Prim.Native.Nat.{◌+◌}
use mathlib.Core.Path.{sym}
use native.Mathlib.Omega.{arith}
use borrow.Author.Tests.{lt-leb}
use Rattle.list.proofs.Readings.{holds-rest}
use Rattle.list.proofs.reading.holds.Goals as goal

pub returns-then-room-lt-HEADER : goal.returns-then-room-lt-HEADER
returns-then-room-lt-HEADER c =
    let a = c.args in
    sym (lt-leb (24 + a.sections) a.room (omega (arith, c.if-room-lt-HEADER.true)))

pub returns : goal.returns
returns c =
    let a = c.args in
    holds-rest a.room a.sections (omega (arith, c.if-room-lt-HEADER.false))
