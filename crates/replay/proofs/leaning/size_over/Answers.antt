-- `replay::leaning::size_over` meets its contract: b is cut where the index begins.
use mathlib.Core.Path.{sym}
use lib.Seq.{length-take-le}
use Rattle.replay.proofs.Overs.{size-cut}
use Rattle.replay.proofs.leaning.size_over.Goals as goal

pub slice_bounds-size_in-end : goal.slice_bounds-size_in-end
slice_bounds-size_in-end c = sym (length-take-le _ _ c.from_of-from.ensures.inside)

pub returns : goal.returns
returns c =
    let a = c.args in
    size-cut a.h.x a.h.y a.h.output a.a.now a.b.now c.from_of-from.ensures _ c.size_in.ensures
