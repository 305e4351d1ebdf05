-- `replay::keeping::write_list` meets its contract: it hands its arrays on.
use Rattle.replay.proofs.Runs.{ran-as}
use Rattle.replay.proofs.keeping.write_list.Goals as goal

pub returns : goal.returns
returns c = ran-as _ _ c.write_in.ensures
