use lib.ListN.{length}
use Rattle.replay.proofs.Words.{Filling}
use Rattle.replay.proofs.given.places.Given as goal

abbrev pub invariant-loop-i : goal.invariant-loop-i
invariant-loop-i l = Filling l.b l.s (length l.initial.s) l.i
