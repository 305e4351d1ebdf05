-- `replay::ops::join` meets its contract: it hands its arrays on.
use Rattle.replay.proofs.Runs.{ran-as}
use Rattle.replay.proofs.ops.join.Goals as goal

pub returns : goal.returns
returns c = ran-as _ _ c.join_in.ensures
