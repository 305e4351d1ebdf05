-- `recall::codes::mark_of` meets its contract.
use Rattle.recall.proofs.Tellings.{mark-large, mark-small}
use Rattle.recall.proofs.codes.mark_of.Goals as goal

pub returns-then-code-gt-MOST_TOLD : goal.returns-then-code-gt-MOST_TOLD
returns-then-code-gt-MOST_TOLD c = mark-large _ _ _ c.code_of-code.ensures c.if-code-gt-MOST_TOLD.true

pub returns : goal.returns
returns c = mark-small _ _ _ c.code_of-code.ensures c.if-code-gt-MOST_TOLD.false
