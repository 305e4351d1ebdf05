-- `shift::groups::raise_word` meets its contract: what is read is raised and written.
use Rattle.shift.proofs.RaisedWords.{raised-put}
use Rattle.shift.proofs.groups.raise_word.Goals as goal

pub returns : goal.returns
returns c = raised-put _ c.read.ensures c.raised-w.ensures c.write.ensures
