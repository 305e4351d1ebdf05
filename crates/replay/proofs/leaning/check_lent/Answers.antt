-- `replay::leaning::check_lent` meets its contract: the answer, the index and the work slice are those of the check.
use mathlib.Core.Path.{◌∙◌}
use Rattle.replay.proofs.Overs.{lean-seen}
use Rattle.replay.proofs.leaning.check_lent.Goals as goal

pub returns : goal.returns
returns c =
    let s = c.args in
    let h = c.check_leaning.ensures in
    lean-seen _ _ _ _ s.bytes c.seen.ensures c.of_places.ensures c.of_places-2.ensures c.bytes_lent.ensures
    c.fill_places.auto.s c.fill_places-2.auto.s (c.of_leaned-answer.ensures ∙ h.told.answers) h.told.indexes h.cleared
