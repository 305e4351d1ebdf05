-- `replay::ops::name` meets its contract: a part's length is a number that a case can hold.
use Rattle.replay.proofs.Runs.{ran-large, ran-whole}
use Rattle.replay.proofs.ops.name.Goals as goal

pub returns-then-a-gt4294967295 : goal.returns-then-a-gt4294967295
returns-then-a-gt4294967295 c = ran-large _ c.if-a-gt4294967295.true

pub returns : goal.returns
returns c = ran-whole _ c.if-a-gt4294967295.false c.name_lent.ensures
