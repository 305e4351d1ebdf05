-- `ext::checked::beside` meets its contract: what is judged beside the table that the index shows.
use Rattle.ext.proofs.Extendings.{beside-mapped}
use Rattle.ext.proofs.checked.beside.Goals as goal

pub returns : goal.returns
returns c = beside-mapped c.args.b.now c.args.index.now c.args.s.now c.args.n c.order_of-order.ensures c.judge.result c.map_err.result c.judge.ensures c.map_err.ensures.cases
