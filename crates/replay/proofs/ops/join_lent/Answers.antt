-- `replay::ops::join_lent` meets its contract: the answer and all three slices are those of the join.
use mathlib.Core.Path.{◌∙◌}
use lib.ListN.{length}
use Rattle.replay.proofs.Runs.{join-seen}
use Rattle.replay.proofs.ops.join_lent.Goals as goal

pub returns : goal.returns
returns c =
    let s = c.args in
    join-seen _ _ _ _ (length s.output.now) c.seen.ensures c.of_places.ensures c.of_places-2.ensures c.of_bytes.ensures
    c.fill_places.auto.s c.fill_places-2.auto.s c.fill_bytes.ensures
    (c.of_joined-answer.ensures ∙ c.join.ensures.answers) c.join.ensures.indexes c.join.ensures.works c.join.ensures.outputs
