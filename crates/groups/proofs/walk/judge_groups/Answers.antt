-- `groups::walk::judge_groups` meets its contract: what is left of the groups says what all of them say.
use mathlib.Core.Path.{refl}
use Rattle.exts.proofs.Remains.{left-start}
use Rattle.paper.proofs.basics.Exits.{exit-same}
use Rattle.groups.proofs.Walks.{groups-done, groups-bad, groups-next}
use Rattle.groups.proofs.walk.judge_groups.Goals as goal

pub loop-p-init : goal.loop-p-init
loop-p-init c = left-start _ _ _ _ _ _

pub returns-in_err-p : goal.returns-in_err-p
returns-in_err-p c =
    rw (exit-same c.from_residual.result c.from_residual.ensures.1)
    (groups-bad c.loop-p.invariant c.loop-p-test.true c.in_err-p.ensures)

pub loop-p-preserved : goal.loop-p-preserved
loop-p-preserved c = groups-next c.loop-p.invariant c.loop-p-test.true c.in_ok-p.ensures

pub returns : goal.returns
returns c = groups-done c.loop-p.invariant refl c.loop-p-test.false
