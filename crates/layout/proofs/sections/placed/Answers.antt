-- `layout::sections::placed` meets its contract: where the section has a size.
use Rattle.layout.proofs.EntriesLeft.{placed-free, placed-back, placed-ends}
use Rattle.layout.proofs.sections.placed.Goals as goal

pub returns-then-end-eq0 : goal.returns-then-end-eq0
returns-then-end-eq0 c = let a = c.args in placed-free a.end a.free a.from a.size c.if-end-eq0.true

pub returns-then-from-free : goal.returns-then-from-free
returns-then-from-free c = let a = c.args in placed-back a.end a.free a.from a.size c.if-end-eq0.false c.if-from-free.true

pub returns : goal.returns
returns c = let a = c.args in placed-ends a.end a.free a.from a.size c.if-end-eq0.false c.if-from-free.false
