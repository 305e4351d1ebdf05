use Rattle.texts.proofs.Passed.{Skipping}
use Rattle.texts.proofs.pieces.line_start.Given as goal

abbrev pub invariant-loop : goal.invariant-loop
invariant-loop l = Skipping l.s l.k l.at l.counter
