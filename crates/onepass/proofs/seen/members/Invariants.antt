use Rattle.onepass.proofs.Telling.{Telling}
use Rattle.onepass.proofs.seen.members.Given as goal

abbrev pub invariant-loop-i : goal.invariant-loop-i
invariant-loop-i l = Telling l.order l.base l.strings l.work l.bytes l.info l.i l.before l.all
