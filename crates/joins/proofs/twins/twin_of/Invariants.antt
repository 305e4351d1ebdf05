-- `joins::twins::twin_of` is safe.
use Prim.Native.Nat.{◌<◌}
use Rattle.joins.proofs.twins.twin_of.Given as goal

abbrev pub invariant-loop-k : goal.invariant-loop-k
invariant-loop-k l = 0 < l.left
