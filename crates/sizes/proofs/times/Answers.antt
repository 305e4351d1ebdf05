-- `sizes::times` meets its contract.
use native.Mathlib.Omega.{arith}
use borrow.Author.Tests.{le-leb, lt-leb}
use Rattle.sizes.proofs.Scales.{product-fits}
use Rattle.sizes.specs.SizeStep.{cut}
use Rattle.sizes.proofs.times.Goals as goal

pub overflow_mul-q : goal.overflow_mul-q
overflow_mul-q c = record { fits = product-fits (omega arith) (omega arith) }

pub returns-then-q-le4294967296 : goal.returns-then-q-le4294967296
unfolding cut
returns-then-q-le4294967296 c = simp (le-leb _ _ c.if-q-le4294967296.true)

pub returns : goal.returns
unfolding cut
returns c = simp (lt-leb _ _ c.if-q-le4294967296.false)
