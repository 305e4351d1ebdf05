-- `heads::head_ok` meets its contract: the two words are those of the record.
use Rattle.heads.proofs.HeadSteps.{head_by-record}
use Rattle.heads.proofs.head_ok.Goals as goal

pub returns : goal.returns
returns c = head_by-record _ _ c.read.ensures c.read-2.ensures c.words_ok.ensures
