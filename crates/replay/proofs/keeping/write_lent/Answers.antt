-- `replay::keeping::write_lent` meets its contract: the answer and all three slices are those of the writing.
use lib.ListN.{length}
use Rattle.replay.proofs.Keepings.{write-seen}
use Rattle.replay.proofs.keeping.write_lent.Goals as goal

pub returns : goal.returns
returns c =
    let s = c.args in
    write-seen s.a.now (length s.index.now) (length s.work.now) (length s.output.now)
    c.seen.ensures c.of_places.ensures c.of_places-2.ensures c.of_bytes.ensures
    c.fill_places.auto.s c.fill_places-2.auto.s c.fill_bytes.ensures
    _ c.of_wrote-answer.ensures c.write.ensures
