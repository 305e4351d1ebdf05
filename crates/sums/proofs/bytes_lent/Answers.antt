-- `sums::bytes_lent` meets its contract: the sum so far comes to the whole sum with what is left.
use native.Mathlib.Nat.{sub-zero}
use Rattle.sums.proofs.Summing.{summing_start, summing-lent}
use Rattle.sums.proofs.bytes_lent.Goals as goal

pub loop-init : goal.loop-init
loop-init c = rw sub-zero (summing_start _)

pub loop-preserved : goal.loop-preserved
loop-preserved c = summing-lent c.loop-test.true c.loop.invariant c.add-sum.ensures.0 c.add-sum.ensures.1
