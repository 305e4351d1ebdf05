-- `members::shown::placeless` meets its contract.
use Rattle.members.proofs.Places.{placeless-void, placeless-past, placeless-there}
use Rattle.members.proofs.shown.placeless.Goals as goal

pub returns-then-k-eq0 : goal.returns-then-k-eq0
returns-then-k-eq0 c = placeless-void c.args.index.now c.if-k-eq0.true

pub returns-then-index-i : goal.returns-then-index-i
returns-then-index-i c = placeless-past c.args.index.now c.if-k-eq0.false c.if-index-i.true

pub returns : goal.returns
returns c = placeless-there c.args.index.now c.if-k-eq0.false
