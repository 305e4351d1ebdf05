-- `replay::parting::apart_lent` meets its contract: the answer and all four slices are those of the cut.
use lib.ListN.{length}
use Rattle.replay.proofs.Aparts.{apart-seen}
use Rattle.replay.proofs.parting.apart_lent.Goals as goal

pub returns : goal.returns
returns c =
    let s = c.args in
    apart-seen s.h.x s.h.y s.a.now (length s.index.now) (length s.work.now) (length s.first.now) (length s.second.now)
    c.seen.ensures c.of_places.ensures c.of_places-2.ensures c.of_both-output.ensures
    c.fill_places.auto.s c.fill_places-2.auto.s c.fill_bytes.ensures c.fill_bytes-2.ensures
    _ c.of_parted.ensures c.split-parted.ensures
