-- `gate::whole::answer` meets its contract: what one pass tells, or what the phases answer that are left.
use Rattle.gate.proofs.Checks.{answer-lengths, sure-told}
use Rattle.gate.proofs.ReadOnce.{sure-read}
use Rattle.gate.proofs.whole.answer.Goals as goal

pub by_later-requires : goal.by_later-requires
by_later-requires c = sure-read _ _ c.pass.ensures c.in-Read.is c.pass.auto.index c.pass.auto.work

pub returns-in-Good : goal.returns-in-Good
returns-in-Good c = sure-told _ _ _ _ c.pass.ensures c.in-Good.is

pub returns-in-Read : goal.returns-in-Read
returns-in-Read c = answer-lengths c.by_later.ensures c.pass.auto.index c.pass.auto.work

pub returns-in-Unsure : goal.returns-in-Unsure
returns-in-Unsure c = answer-lengths c.by_phases.ensures c.pass.auto.index c.pass.auto.work
