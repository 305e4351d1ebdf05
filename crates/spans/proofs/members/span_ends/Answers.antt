-- `spans::members::span_ends` meets its contract: no span ends nowhere.
use Rattle.spans.proofs.SpanTests.{ends_nowhere, ends-late, ends-by}
use Rattle.spans.proofs.members.span_ends.Goals as goal

pub returns-then-end-bits : goal.returns-then-end-bits
returns-then-end-bits c = ends-late _ c.in-Some.is c.if-end-bits.true

pub returns-in-None : goal.returns-in-None
returns-in-None c = ends_nowhere _ c.in-None.is

pub returns-else-end-bits : goal.returns-else-end-bits
returns-else-end-bits c = ends-by _ c.in-Some.is c.if-end-bits.false
