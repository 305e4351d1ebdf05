-- `sums::places_lent` meets its contract: the sum so far comes to the whole sum with what is left.
use native.Mathlib.Nat.{sub-zero}
use Rattle.sums.proofs.Summing.{summing_start, summing-lent-place}
use Rattle.sums.proofs.places_lent.Goals as goal

pub loop-init : goal.loop-init
loop-init c = rw sub-zero (summing_start _)

pub loop-preserved : goal.loop-preserved
loop-preserved c = summing-lent-place c.loop-test.true c.loop.invariant c.add_place-sum.ensures.0 c.add_place-sum.ensures.1
