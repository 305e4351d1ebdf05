-- `refs::refs_ok` meets its contract: where all is good for sure, and else by the roles.
use Rattle.refs.proofs.refs_ok.Goals as goal

pub returns-then-sure : goal.returns-then-sure
returns-then-sure c = c.sure.ensures c.if-sure.true
