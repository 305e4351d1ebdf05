-- `replay::keeping::write_in` meets its contract: all three slices are cut to what a case lends.
use mathlib.Core.Path.{sym}
use native.Mathlib.Omega.{arith}
use lib.Seq.{length-take-le}
use Rattle.replay.proofs.Keepings.{write-cut}
use Rattle.replay.proofs.Runs.{ran-large, ran-large-and, ran-whole, ran-and}
use Rattle.replay.proofs.keeping.write_in.Goals as goal

pub returns-then-index-places : goal.returns-then-index-places
returns-then-index-places c = ran-large-and _ _ c.if-index-places.true

pub returns-then-work-works : goal.returns-then-work-works
returns-then-work-works c = ran-and _ _ c.if-index-places.false (ran-large-and _ _ c.if-work-works.true)

pub returns-then-output-room : goal.returns-then-output-room
returns-then-output-room c = ran-and _ _ c.if-index-places.false (ran-and _ _ c.if-work-works.false (ran-large _ c.if-output-room.true))

pub slice_bounds-index-end-2 : goal.slice_bounds-index-end-2
slice_bounds-index-end-2 c = sym (length-take-le _ _ (omega arith))

pub slice_bounds-work-end-2 : goal.slice_bounds-work-end-2
slice_bounds-work-end-2 c = sym (length-take-le _ _ (omega arith))

pub slice_bounds-write_lent-end-2 : goal.slice_bounds-write_lent-end-2
slice_bounds-write_lent-end-2 c = sym (length-take-le _ _ (omega arith))

pub returns : goal.returns
returns c =
    let s = c.args in
    ran-and _ _ c.if-index-places.false
    (ran-and _ _ c.if-work-works.false
    (ran-whole _ c.if-output-room.false
    (write-cut s.a.now (length-take-le s.h.index s.index.now (omega (arith, c.if-index-places.false)))
    (length-take-le s.h.work s.work.now (omega (arith, c.if-work-works.false)))
    (length-take-le s.h.output s.output.now (omega (arith, c.if-output-room.false))) c.write_lent.ensures)))
