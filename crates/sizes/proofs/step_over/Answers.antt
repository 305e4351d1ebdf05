-- `sizes::step_over` meets its contract: the blob that holds the type is read.
use native.Mathlib.Omega.{arith}
use Rattle.sizes.proofs.Overs.{step_over-base, step_over-own}
use Rattle.sizes.proofs.step_over.Goals as goal

pub returns-then-t-before : goal.returns-then-t-before
returns-then-t-before c = step_over-base _ _ _ _ (omega arith) c.step_at.ensures

pub returns : goal.returns
returns c = step_over-own _ _ _ _ (omega arith) c.step_at-2.ensures
