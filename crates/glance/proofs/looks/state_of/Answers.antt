-- `glance::looks::state_of` meets its contract.
use Rattle.glance.proofs.Looking.{state-past}
use Rattle.glance.proofs.looks.state_of.Goals as goal

pub returns-then-work-i : goal.returns-then-work-i
returns-then-work-i c = state-past c.args.work.now _ c.if-work-i.true
