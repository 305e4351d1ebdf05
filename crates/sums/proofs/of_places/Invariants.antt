use lib.ListN.{drop}
use Rattle.paper.specs.declared.Order.TheVariants.{LowFirst}
use Rattle.paper.specs.rules.Word.{bytes_of_words}
use Rattle.sums.specs.Sum.{sum_of}
use Rattle.sums.proofs.Summing.{Summing}
use Rattle.sums.proofs.of_places.Given as goal

abbrev pub invariant-loop-place : goal.invariant-loop-place
invariant-loop-place l = Summing (sum_of (bytes_of_words LowFirst l.s)) l.sum (bytes_of_words LowFirst (drop l.place-index l.s))
