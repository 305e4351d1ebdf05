use Rattle.scan.proofs.Placing.{Placing}
use Rattle.scan.proofs.places.places.Given as goal

abbrev pub invariant-loop-k : goal.invariant-loop-k
invariant-loop-k l = Placing l.b l.first l.n l.initial.index l.k l.at l.index
