-- `replay::ops::check_lent` meets its contract: the answer, the index and the work slice are those of the gate.
use mathlib.Core.Path.{◌∙◌}
use Rattle.replay.proofs.Runs.{check-seen}
use Rattle.replay.proofs.ops.check_lent.Goals as goal

pub returns : goal.returns
returns c =
    let s = c.args in
    check-seen _ _ _ s.bytes c.seen.ensures c.of_places.ensures c.of_places-2.ensures c.bytes_lent.ensures
    c.fill_places.auto.s c.fill_places-2.auto.s (c.of_checked-answer.ensures ∙ c.check.ensures.told.answers) c.check.ensures.told.indexes
    c.check.ensures.cleared
