use Rattle.quotes.proofs.Quotes.{Quoting}
use Rattle.quotes.proofs.escapes.quote.Given as goal

abbrev pub invariant-loop-b : goal.invariant-loop-b
invariant-loop-b l = Quoting l.s l.initial.out l.out l.at l.b-index
