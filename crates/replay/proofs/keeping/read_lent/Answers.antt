-- `replay::keeping::read_lent` meets its contract: the answer and all four slices are those of the reading.
use lib.ListN.{length}
use Rattle.replay.proofs.Keepings.{read-seen}
use Rattle.replay.proofs.keeping.read_lent.Goals as goal

pub returns : goal.returns
returns c =
    let s = c.args in
    read-seen s.a.now (length s.index.now) (length s.work.now) (length s.output.now) (length s.bytes.now)
    c.seen.ensures c.of_places.ensures c.of_places-2.ensures c.of_both-sum.ensures
    c.fill_places.auto.s c.fill_places-2.auto.s c.fill_bytes.auto.s c.fill_bytes-2.ensures
    _ c.of_made.ensures c.read-made.ensures
