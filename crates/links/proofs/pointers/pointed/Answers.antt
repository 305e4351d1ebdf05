-- `links::pointers::pointed` meets its contract: the third word of one of the six kinds.
use Rattle.links.proofs.Pointing.{link-leads, link-none}
use Rattle.links.proofs.pointers.pointed.Goals as goal

pub returns-then-is_link : goal.returns-then-is_link
returns-then-is_link c =
    link-leads _ _ _ _ c.record_of-s.ensures.shows c.read.ensures c.kind_of.ensures c.is_link.ensures
    c.if-is_link.true c.read-then-is_link.ensures

pub returns : goal.returns
returns c = link-none _ _ _ _ c.record_of-s.ensures.shows c.read.ensures c.kind_of.ensures c.is_link.ensures c.if-is_link.false
