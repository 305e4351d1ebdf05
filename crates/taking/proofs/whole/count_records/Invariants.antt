use Prim.Native.Nat.{◌-◌}
use lib.ListN.{length}
use Rattle.taking.proofs.Counting.{Counting}
use Rattle.taking.proofs.whole.count_records.Given as goal

abbrev pub invariant-loop-p : goal.invariant-loop-p
invariant-loop-p l = Counting l.order l.s l.totals l.p

abbrev pub decreases-loop-p : goal.decreases-loop-p
decreases-loop-p l = length l.s - l.p
