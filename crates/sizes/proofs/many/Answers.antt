-- `sizes::many` meets its contract: exact where it fits, else overflow.
use native.Mathlib.Omega.{arith}
use borrow.Author.Tests.{le-leb, lt-leb}
use Rattle.sizes.proofs.Scales.{product-fits}
use Rattle.paper.specs.rules.Answer.{sized_as_paper}
use Rattle.sizes.proofs.many.Goals as goal

pub overflow_mul-q : goal.overflow_mul-q
overflow_mul-q c = record { fits = product-fits (omega arith) (omega arith) }

pub returns-then-q-le4294967295 : goal.returns-then-q-le4294967295
unfolding sized_as_paper
returns-then-q-le4294967295 c = simp (le-leb _ _ c.if-q-le4294967295.true)

pub returns : goal.returns
unfolding sized_as_paper
returns c = simp (lt-leb _ _ c.if-q-le4294967295.false)
