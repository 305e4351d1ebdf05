-- `replay::leaning::check_over` meets its contract: it hands its arrays on.
use Rattle.replay.proofs.Runs.{ran-as}
use Rattle.replay.proofs.leaning.check_over.Goals as goal

pub returns : goal.returns
returns c = ran-as _ _ c.check_in.ensures
