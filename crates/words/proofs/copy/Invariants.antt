use Rattle.paper.proofs.bytes.Puts.{Copying}
use Rattle.words.proofs.copy.Given as goal

abbrev pub invariant-loop-i : goal.invariant-loop-i
invariant-loop-i l = Copying l.initial.out l.at l.s l.out l.i
