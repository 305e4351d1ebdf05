-- `views::place_of` meets its contract.
use Rattle.views.proofs.Shows.{place_by-void, place_by-above, place_by-there, place_by-unlisted}
use Rattle.views.proofs.place_of.Goals as goal

pub returns-then-k-eq0 : goal.returns-then-k-eq0
returns-then-k-eq0 c = place_by-void _ _ c.if-k-eq0.true

pub returns-then-n-k : goal.returns-then-n-k
returns-then-n-k c = place_by-above _ _ c.if-k-eq0.false c.if-n-k.true

pub returns-then-index-i : goal.returns-then-index-i
returns-then-index-i c = place_by-unlisted _ _ c.if-k-eq0.false c.if-n-k.false c.if-index-i.true

pub returns : goal.returns
returns c = place_by-there _ _ c.if-k-eq0.false c.if-n-k.false
