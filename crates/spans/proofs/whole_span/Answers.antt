-- `spans::whole_span` meets its contract: from a multiple of 8 only.
use Rattle.spans.proofs.SpanTests.{whole-off, whole-on}
use Rattle.spans.proofs.whole_span.Goals as goal

pub returns-then-from-ne0 : goal.returns-then-from-ne0
returns-then-from-ne0 c = let a = c.args in whole-off a.from a.size c.if-from-ne0.true

pub returns : goal.returns
returns c = let a = c.args in whole-on a.from a.size c.if-from-ne0.false
