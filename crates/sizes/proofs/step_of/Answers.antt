-- `sizes::step_of` meets its contract: what the record says, by its words.
use Rattle.sizes.proofs.SizeSteps.{step_of-unreadable, step_of-readable}
use Rattle.sizes.proofs.step_of.Goals as goal

pub returns-then-unreadable : goal.returns-then-unreadable
returns-then-unreadable c = step_of-unreadable _ _ c.read.ensures c.kind_of-kind.ensures c.unreadable.ensures c.if-unreadable.true

pub returns : goal.returns
returns c =
    step_of-readable _ _ c.read.ensures c.kind_of-kind.ensures c.unreadable.ensures c.if-unreadable.false
    c.step_words.ensures
