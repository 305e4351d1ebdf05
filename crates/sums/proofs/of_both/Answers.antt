-- `sums::of_both` meets its contract: the second slice's bytes go on behind the first's.
use Rattle.sums.proofs.Summing.{sum_both}
use Rattle.sums.proofs.of_both.Goals as goal

pub returns : goal.returns
returns c = let a = c.args in sum_both a.s.now a.t.now c.add_bytes-sum.ensures.1 c.add_bytes.ensures.1
