-- `sizes::step_at` meets its contract: 21 where the index or the blob does not reach the record.
use native.Mathlib.Omega.{arith}
use Rattle.sizes.proofs.SizeSteps.{step_at-outside, step_at-header, step_at-cut, step_at-part}
use Rattle.sizes.proofs.step_at.Goals as goal

pub returns-then-index-k : goal.returns-then-index-k
returns-then-index-k c = step_at-outside _ _ _ c.if-index-k.true

pub returns-then-p-lt24 : goal.returns-then-p-lt24
returns-then-p-lt24 c = step_at-header _ _ _ c.if-index-k.false c.if-p-lt24.true

pub overflow_add-p : goal.overflow_add-p
overflow_add-p c = omega (arith, (c.shared_slice_known-3-1.given c.args.t.0))

pub returns-then-b-p : goal.returns-then-b-p
returns-then-b-p c = step_at-cut _ _ _ c.if-index-k.false c.if-p-lt24.false c.if-b-p.true

pub returns : goal.returns
returns c =
    step_at-part _ _ _ c.if-index-k.false c.if-p-lt24.false
    c.if-b-p.false _ c.order_of.ensures c.step_of.ensures
