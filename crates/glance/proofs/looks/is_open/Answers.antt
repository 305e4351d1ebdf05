-- `glance::looks::is_open` meets its contract.
use Rattle.glance.proofs.Looking.{open-zero, open-other}
use Rattle.glance.proofs.looks.is_open.Goals as goal

pub returns-then-s-eq0 : goal.returns-then-s-eq0
returns-then-s-eq0 c = open-zero _ c.if-s-eq0.true

pub returns : goal.returns
returns c = open-other _ c.if-s-eq0.false
