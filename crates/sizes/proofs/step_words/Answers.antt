-- `sizes::step_words` meets its contract: what the record says, by its words.
use mathlib.Core.Path.{refl}
use Rattle.sizes.proofs.SizeSteps.{step_words-read}
use Rattle.sizes.proofs.step_words.Goals as goal

pub returns : goal.returns
returns c = step_words-read _ _ c.read.ensures c.kind_of-kind.ensures refl refl refl c.size_rule.ensures c.step_by.ensures
