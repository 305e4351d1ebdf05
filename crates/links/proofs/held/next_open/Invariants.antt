use Rattle.links.proofs.Looks.{Looking}
use Rattle.links.proofs.held.next_open.Given as goal

abbrev pub invariant-loop-i : goal.invariant-loop-i
invariant-loop-i l = Looking l.order l.bytes l.work l.place l.end l.from l.i
