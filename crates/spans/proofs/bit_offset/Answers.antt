-- `spans::bit_offset` meets its contract: the low 24 bits, or all.
use Rattle.spans.proofs.SpanTests.{offset-field, offset-plain}
use Rattle.spans.proofs.bit_offset.Goals as goal

pub returns-then-flag-eq1 : goal.returns-then-flag-eq1
returns-then-flag-eq1 c = offset-field c.args.offset c.if-flag-eq1.true

pub returns : goal.returns
returns c = offset-plain c.args.offset c.if-flag-eq1.false
