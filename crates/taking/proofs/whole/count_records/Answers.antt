-- `taking::whole::count_records` meets its contract: record by record, to the end of the bytes.
use Rattle.paper.proofs.basics.Exits.{exit-same}
use Rattle.taking.proofs.Counting.{counting-bad, counting-done, counting-next, counting-start}
use Rattle.taking.proofs.whole.count_records.Goals as goal

pub loop-p-init : goal.loop-p-init
loop-p-init c = counting-start c.args.order c.args.s.now

pub returns-in_err-record : goal.returns-in_err-record
returns-in_err-record c =
    rw (exit-same c.from_residual.result c.from_residual.ensures.1)
    (counting-bad c.loop-p.invariant c.loop-p-test.true c.in_err-record.ensures)

pub loop-p-preserved : goal.loop-p-preserved
loop-p-preserved c = counting-next c.loop-p.invariant c.loop-p-test.true c.in_ok-record.ensures c.well_formed.1.0.0 c.after-totals.ensures

pub returns : goal.returns
returns c = counting-done c.loop-p.invariant c.loop-p-test.false
