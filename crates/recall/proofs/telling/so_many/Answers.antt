-- `recall::telling::so_many` meets its contract.
use native.Mathlib.Omega.{arith}
use Rattle.recall.proofs.Tellings.{product-fits, many-exact, many-large}
use Rattle.recall.proofs.telling.so_many.Goals as goal

pub overflow_mul-q : goal.overflow_mul-q
overflow_mul-q c = record { fits = product-fits (omega arith) (omega arith) }

pub returns-then-q-le4294967295 : goal.returns-then-q-le4294967295
returns-then-q-le4294967295 c = many-exact _ c.if-q-le4294967295.true

pub returns : goal.returns
returns c = many-large _ c.if-q-le4294967295.false
