use Prim.Native.Nat.{◌-◌}
use Rattle.paper.specs.declared.Order.TheVariants.{LowFirst}
use Rattle.paper.specs.rules.Word.{bytes_of_words}
use Rattle.sums.specs.Sum.{sum_of, lent_places}
use Rattle.sums.proofs.Summing.{Summing}
use Rattle.sums.proofs.places_lent.Given as goal

abbrev pub invariant-loop : goal.invariant-loop
invariant-loop l = Summing (sum_of (bytes_of_words LowFirst (lent_places l.n))) l.sum (bytes_of_words LowFirst (lent_places (l.n - l.counter)))
