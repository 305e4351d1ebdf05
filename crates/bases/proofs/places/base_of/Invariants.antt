use Prim.Native.Nat.{◌-◌}
use lib.ListN.{length}
use Rattle.bases.proofs.Follows.{Following}
use Rattle.bases.proofs.places.base_of.Given as goal

abbrev pub invariant-loop : goal.invariant-loop
invariant-loop l = Following l.blob l.index l.t l.at (length l.index - l.counter)
