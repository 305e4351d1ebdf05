-- `replay::leaning::size_lent` meets its contract: the answer is the definition's, over the places that the index's bytes stand for.
use mathlib.Core.Path.{◌∙◌}
use Rattle.replay.proofs.Overs.{size-over-seen}
use Rattle.replay.proofs.leaning.size_lent.Goals as goal

pub returns : goal.returns
returns c =
    let a = c.args in
    size-over-seen _ _ a.index.now a.h.x a.h.y c.seen.ensures c.places.ensures (c.of_sized.ensures ∙ c.size_leaning-told.ensures)
