-- `replay::ops::member_lent` meets its contract: the answer, the sixteen bytes and both slices are those of the member.
use Rattle.replay.proofs.Runs.{member-seen}
use Rattle.replay.proofs.ops.member_lent.Goals as goal

pub returns : goal.returns
returns c =
    let s = c.args in
    member-seen _ _ _ _ _ _ c.seen.ensures c.of_places.ensures c.of_places-2.ensures c.of_bytes.ensures c.fill_places.auto.s
    c.fill_places-2.auto.s c.numbers_of-answer.ensures c.sixteen_of-bytes.ensures c.member-told.ensures
