-- `recall::telling::told` meets its contract.
use Rattle.recall.proofs.Tellings.{told-past}
use Rattle.recall.proofs.telling.told.Goals as goal

pub returns-then-memo-i : goal.returns-then-memo-i
returns-then-memo-i c = told-past c.args.memo.now _ c.if-memo-i.true
