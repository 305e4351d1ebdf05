-- `cuts::tables::strings_end` meets its contract: no byte, too few, or the last one.
use native.Mathlib.Omega.{arith}
use Rattle.cuts.proofs.Runs.{ends-empty, ends-past, ends-byte}
use Rattle.cuts.proofs.tables.strings_end.Goals as goal

pub returns-then-s-eq0 : goal.returns-then-s-eq0
returns-then-s-eq0 c = let a = c.args in ends-empty a.strings.now a.end.0 c.if-s-eq0.true

pub returns-then-strings-s : goal.returns-then-strings-s
returns-then-strings-s c = let a = c.args in ends-past a.strings.now a.end.0 (omega (arith, c.if-strings-s.true))

pub returns : goal.returns
returns c =
    let a = c.args in
    ends-byte a.strings.now a.end.0 c.if-s-eq0.false c.if-strings-s.false
