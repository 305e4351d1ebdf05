-- `taking::whole::tag_order` meets its contract: 33 is the high byte first.
use Rattle.taking.proofs.Measures.{tag-high, tag-low}
use Rattle.taking.proofs.whole.tag_order.Goals as goal

pub returns-then-tag-eq33 : goal.returns-then-tag-eq33
returns-then-tag-eq33 c = tag-high _ c.if-tag-eq33.true

pub returns : goal.returns
returns c = tag-low _ c.if-tag-eq33.false
