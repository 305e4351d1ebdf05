use lib.ListN.{drop}
use Rattle.sums.specs.Sum.{sum_from}
use Rattle.sums.proofs.Summing.{Summing}
use Rattle.sums.proofs.add_bytes.Given as goal

abbrev pub invariant-loop-byte : goal.invariant-loop-byte
invariant-loop-byte l = Summing (sum_from l.start l.s) l.sum (drop l.byte-index l.s)
