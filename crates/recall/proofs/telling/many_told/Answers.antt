-- `recall::telling::many_told` meets its contract.
use Rattle.recall.proofs.Tellings.{many-none, many-some}
use Rattle.recall.proofs.telling.many_told.Goals as goal

pub returns-then-code-gt-HALF_SIZE : goal.returns-then-code-gt-HALF_SIZE
returns-then-code-gt-HALF_SIZE c = many-none _ _ c.if-code-gt-HALF_SIZE.true

pub returns : goal.returns
returns c = many-some _ _ c.if-code-gt-HALF_SIZE.false c.so_many.ensures
