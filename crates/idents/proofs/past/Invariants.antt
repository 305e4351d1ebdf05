use Rattle.idents.specs.Spelling.{Passing, among}
use Rattle.idents.proofs.past.Given as goal

abbrev pub invariant-loop-i : goal.invariant-loop-i
invariant-loop-i l = Passing (among l.set) l.s l.from l.i
