use Rattle.idents.specs.Spelling.{Surely}
use Rattle.idents.proofs.sixteen.Given as goal

abbrev pub invariant-loop-i : goal.invariant-loop-i
invariant-loop-i l = Surely l.s l.from l.i l.all
