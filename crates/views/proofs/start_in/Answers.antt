-- `views::start_in` meets its contract.
use Rattle.views.proofs.Shows.{starts, start-void, start-above, start-unlisted, start-past, start-there}
use Rattle.views.proofs.start_in.Goals as goal

pub returns-then-k-eq0 : goal.returns-then-k-eq0
returns-then-k-eq0 c = starts _ _ _ (start-void _ _ _ c.if-k-eq0.true)

pub returns-then-n-k : goal.returns-then-n-k
returns-then-n-k c = starts _ _ _ (start-above _ _ _ c.if-k-eq0.false c.if-n-k.true)

pub returns-then-index-i : goal.returns-then-index-i
returns-then-index-i c = starts _ _ _ (start-unlisted _ _ _ c.if-k-eq0.false c.if-n-k.false c.if-index-i.true)

pub returns-then-end-p : goal.returns-then-end-p
returns-then-end-p c = starts _ _ _ (start-past _ _ _ c.if-k-eq0.false c.if-n-k.false c.if-index-i.false c.if-end-p.true)

pub returns : goal.returns
returns c = starts _ _ _ (start-there _ _ _ c.if-k-eq0.false c.if-n-k.false c.if-index-i.false c.if-end-p.false)
