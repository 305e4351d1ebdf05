-- `header::orders::begins_with` meets its contract: the two bytes one after the other.
use Rattle.header.proofs.Headers.{begins-short, begins-first, begins-second}
use Rattle.header.proofs.orders.begins_with.Goals as goal

pub returns-then-b-lt2 : goal.returns-then-b-lt2
returns-then-b-lt2 c = begins-short _ _ _ c.if-b-lt2.true

pub returns-then-b-first : goal.returns-then-b-first
returns-then-b-first c = begins-first _ _ _ c.if-b-lt2.false c.if-b-first.true

pub returns : goal.returns
returns c = begins-second _ _ _ c.if-b-lt2.false c.if-b-first.false
