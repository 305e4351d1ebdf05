-- `sums::of_places` meets its contract: the sum so far comes to the whole sum with what is left.
use Rattle.sums.proofs.Summing.{summing_start}
use Rattle.sums.proofs.of_places.Goals as goal

pub loop-place-init : goal.loop-place-init
loop-place-init c = summing_start _
