-- `glance::looks::behind_of` meets its contract.
use Rattle.glance.proofs.Looking.{behind-void, behind-type}
use Rattle.glance.proofs.looks.behind_of.Goals as goal

pub returns-then-u-eq0 : goal.returns-then-u-eq0
returns-then-u-eq0 c = behind-void c.args.work.now c.if-u-eq0.true

pub returns : goal.returns
returns c = behind-type c.args.work.now c.if-u-eq0.false c.state_of.ensures c.through.ensures
