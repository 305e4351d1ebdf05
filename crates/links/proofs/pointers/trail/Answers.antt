-- `links::pointers::trail` meets its contract: the line is kept, and a type more has been seen at each turn.
use Rattle.links.proofs.Pointing.{trail-start, trail-room, trail-met, trail-end, trail-next, trail-less}
use Rattle.links.proofs.pointers.trail.Goals as goal

pub loop-view-init : goal.loop-view-init
loop-view-init c = trail-start c.requires

pub bounds-work-at : goal.bounds-work-at
bounds-work-at c = trail-room c.loop-view.invariant

pub returns-then-mark-ne0 : goal.returns-then-mark-ne0
returns-then-mark-ne0 c = trail-met c.loop-view.invariant c.if-mark-ne0.true

pub bounds-work-at-in-loop-view : goal.bounds-work-at-in-loop-view
bounds-work-at-in-loop-view c = trail-room c.loop-view.invariant

pub returns-then-u-eq0 : goal.returns-then-u-eq0
returns-then-u-eq0 c = trail-end c.loop-view.invariant c.pointed-u.ensures c.if-u-eq0.true

pub loop-view-smaller : goal.loop-view-smaller
loop-view-smaller c = trail-less c.loop-view.invariant c.if-mark-ne0.false

pub loop-view-preserved : goal.loop-view-preserved
loop-view-preserved c = trail-next c.loop-view.invariant c.pointed-u.ensures c.if-u-eq0.false
