-- `sums::of_bytes` meets its contract: the sum of no bytes, and the slice's after it.
use Rattle.sums.specs.Sum.{sum_of}
use Rattle.sums.proofs.of_bytes.Goals as goal

pub returns : goal.returns
unfolding sum_of
returns c = c.add_bytes.ensures.1
