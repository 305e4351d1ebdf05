-- `glance::arrays::many_bytes` meets its contract.
use mathlib.Core.Logic.{inl}
use mathlib.Core.Path.{refl}
use native.Mathlib.Omega.{arith}
use Rattle.recall.proofs.Tellings.{product-fits}
use Rattle.glance.proofs.arrays.many_bytes.Goals as goal

pub overflow_mul-all : goal.overflow_mul-all
overflow_mul-all c = record { fits = product-fits (omega arith) (omega arith) }

pub returns-then-all-ge268435456 : goal.returns-then-all-ge268435456
returns-then-all-ge268435456 c = inl refl
