use Prim.Native.Nat.{◌-◌}
use Rattle.sums.specs.Sum.{sum_of, lent_bytes}
use Rattle.sums.proofs.Summing.{Summing}
use Rattle.sums.proofs.bytes_lent.Given as goal

abbrev pub invariant-loop : goal.invariant-loop
invariant-loop l = Summing (sum_of (lent_bytes l.n)) l.sum (lent_bytes (l.n - l.counter))
