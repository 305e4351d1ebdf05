use Rattle.tails.proofs.Parameters.{Asking}
use Rattle.tails.proofs.voids_last.Given as goal

abbrev pub invariant-loop-i : goal.invariant-loop-i
invariant-loop-i l = Asking l.order l.bytes l.n l.i
