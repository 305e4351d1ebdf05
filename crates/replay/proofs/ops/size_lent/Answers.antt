-- `replay::ops::size_lent` meets its contract: the answer is the paper's, over the places that b stands for.
use mathlib.Core.Path.{◌∙◌}
use Rattle.replay.proofs.Runs.{size-seen}
use Rattle.replay.proofs.ops.size_lent.Goals as goal

pub returns : goal.returns
returns c =
    let h = c.args in
    size-seen _ h.b.now h.h.x h.h.index h.h.work h.h.output c.seen.ensures c.places_lent.ensures
    c.places_lent-2.ensures c.bytes_lent.ensures
    c.places.ensures (c.of_sized-answer.ensures ∙ c.size.ensures)
