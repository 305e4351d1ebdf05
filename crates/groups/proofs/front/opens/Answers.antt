-- `groups::front::opens` meets its contract: the four bytes of the order that the first two say.
use Rattle.groups.proofs.Headers.{opens-either}
use Rattle.paper.specs.declared.Order.TheVariants.{LowFirst, HighFirst}
use Rattle.groups.proofs.front.opens.Goals as goal

pub returns-in-LowFirst : goal.returns-in-LowFirst
returns-in-LowFirst c = opens-either _ LowFirst c.order_of.ensures c.in-LowFirst.is c.opens_as.ensures

pub returns-in-HighFirst : goal.returns-in-HighFirst
returns-in-HighFirst c = opens-either _ HighFirst c.order_of.ensures c.in-HighFirst.is c.opens_as-in-HighFirst.ensures
