-- `links::whole::links` meets its contract.
use Rattle.links.proofs.Linking.{links-kept, links-refused}
use Rattle.links.proofs.whole.links.Goals as goal

pub returns-in-Ok : goal.returns-in-Ok
returns-in-Ok c = links-kept c.both-said.result c.both-said.ensures c.in-Ok.is c.both-said.auto.work

pub returns-in-Err : goal.returns-in-Err
returns-in-Err c = links-refused c.both-said.result c.both-said.ensures _ c.clear.ensures c.both-said.auto.work c.in-Err.is
