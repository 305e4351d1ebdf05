-- `replay::parting::apart_in` meets its contract: all four slices are cut to what a case lends.
use mathlib.Core.Path.{sym}
use native.Mathlib.Omega.{arith}
use lib.ListN.{length}
use lib.Seq.{length-take-le}
use Rattle.replay.proofs.Aparts.{apart-cut}
use Rattle.replay.proofs.Runs.{ran-large, ran-large-and, ran-whole, ran-and}
use Rattle.replay.proofs.parting.apart_in.Goals as goal

pub returns-then-index-places : goal.returns-then-index-places
returns-then-index-places c = ran-large-and _ _ c.if-index-places.true

pub returns-then-work-works : goal.returns-then-work-works
returns-then-work-works c = ran-and _ _ c.if-index-places.false (ran-large-and _ _ c.if-work-works.true)

pub returns-then-first-bytes : goal.returns-then-first-bytes
returns-then-first-bytes c = ran-and _ _ c.if-index-places.false (ran-and _ _ c.if-work-works.false (ran-large-and _ _ c.if-first-bytes.true))

pub returns-then-second-others : goal.returns-then-second-others
returns-then-second-others c =
    ran-and _ _ c.if-index-places.false
    (ran-and _ _ c.if-work-works.false (ran-and _ _ c.if-first-bytes.false (ran-large _ c.if-second-others.true)))

pub slice_bounds-index-end-2 : goal.slice_bounds-index-end-2
slice_bounds-index-end-2 c = sym (length-take-le _ _ (omega arith))

pub slice_bounds-work-end-2 : goal.slice_bounds-work-end-2
slice_bounds-work-end-2 c = sym (length-take-le _ _ (omega arith))

pub slice_bounds-first-end-2 : goal.slice_bounds-first-end-2
slice_bounds-first-end-2 c = sym (length-take-le _ _ (omega arith))

pub slice_bounds-apart_lent-end-2 : goal.slice_bounds-apart_lent-end-2
slice_bounds-apart_lent-end-2 c = sym (length-take-le _ _ (omega arith))

pub returns : goal.returns
returns c =
    let s = c.args in
    ran-and _ _ c.if-index-places.false
    (ran-and _ _ c.if-work-works.false
    (ran-and _ _ c.if-first-bytes.false
    (ran-whole _ c.if-second-others.false
    (apart-cut s.h.x s.h.y s.a.now (length-take-le s.h.index s.index.now (omega (arith, c.if-index-places.false)))
    (length-take-le s.h.work s.work.now (omega (arith, c.if-work-works.false)))
    (length-take-le s.h.output s.first.now (omega (arith, c.if-first-bytes.false)))
    (length-take-le (length s.b.now) s.second.now (omega (arith, c.if-second-others.false))) c.apart_lent.ensures))))
