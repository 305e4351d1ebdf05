-- `replay::parting::apart` meets its contract: it hands its arrays on.
use Rattle.replay.proofs.Runs.{ran-as}
use Rattle.replay.proofs.parting.apart.Goals as goal

pub returns : goal.returns
returns c = ran-as _ _ c.apart_in.ensures
