-- `values::reading::bytes_at` meets its contract.
use Rattle.values.proofs.GivenValues.{short-bytes, longer-bytes}
use Rattle.values.proofs.reading.bytes_at.Goals as goal

pub returns-then-bits-le64 : goal.returns-then-bits-le64
returns-then-bits-le64 c = let a = c.args in short-bytes a.s.now a.from a.bits c.if-bits-le64.true a.signed

pub returns : goal.returns
returns c = let a = c.args in longer-bytes a.s.now a.from a.bits a.signed c.if-bits-le64.false c.long_bytes.ensures
