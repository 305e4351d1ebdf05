-- `phases::types::sixth` meets its contract: phase 6 says of the types passed nothing.
use mathlib.Core.Path.{refl}
use Rattle.paper.proofs.basics.Exits.{exit-same}
use Rattle.paper.proofs.gates.Looks.{looking-start, looking-next, looking-says, looking-done}
use Rattle.phases.specs.Said.{over_shown}
use Rattle.phases.proofs.types.sixth.Goals as goal

pub loop-k-init : goal.loop-k-init
loop-k-init c = looking-start _ _ _

pub loop-k-preserved : goal.loop-k-preserved
loop-k-preserved c = looking-next c.loop-k.invariant c.loop-k-test.true c.in_ok-layout_at.ensures refl

pub returns-in_err-layout_at : goal.returns-in_err-layout_at
unfolding over_shown
returns-in_err-layout_at c =
    rw (exit-same c.from_residual.result c.from_residual.ensures.1)
    (looking-says c.loop-k.invariant c.loop-k-test.true c.in_err-layout_at.ensures refl)

pub returns : goal.returns
unfolding over_shown
returns c = looking-done c.loop-k.invariant c.loop-k-test.false
