-- `links::chains::visit` meets its contract: a root that was seen is done.
use Rattle.links.proofs.Roots.{root-seen}
use Rattle.links.proofs.chains.visit.Goals as goal

pub returns-then-work-at-ne0 : goal.returns-then-work-at-ne0
returns-then-work-at-ne0 c = root-seen c.requires c.if-work-at-ne0.true
