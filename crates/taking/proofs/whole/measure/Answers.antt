-- `taking::whole::measure` meets its contract: the string section, then the records behind it.
use Rattle.paper.proofs.basics.Exits.{exit-same}
use Rattle.taking.proofs.Measures.{measured-bad, measured-stop, measured-table}
use Rattle.taking.proofs.whole.measure.Goals as goal

pub returns-in_err-body : goal.returns-in_err-body
returns-in_err-body c = rw (exit-same c.from_residual.result c.from_residual.ensures.1) (measured-bad _ _ c.in_err-body.ensures)

pub returns-in_err-records : goal.returns-in_err-records
returns-in_err-records c =
    rw (exit-same c.from_residual-in_err-records.result c.from_residual-in_err-records.ensures.1)
    (measured-stop c.in_ok-body.ensures c.tag_order-order.ensures _ c.in_err-records.ensures)

pub returns : goal.returns
returns c = measured-table c.in_ok-body.ensures c.tag_order-order.ensures c.in_ok-records.ensures
