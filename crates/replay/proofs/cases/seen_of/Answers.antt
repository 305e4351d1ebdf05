-- `replay::cases::seen_of` meets its contract: a word for each field.
use Rattle.replay.proofs.cases.seen_of.Goals as goal

pub returns : goal.returns
returns c = cc
