-- `bases::places::base_of` meets its contract. The loop's invariant: what is left of the chain has the same base.
use mathlib.Core.Bool.{not}
use mathlib.Core.Path.{ap}
use native.Mathlib.Nat.{sub-zero}
use native.Mathlib.Omega.{arith}
use Rattle.bases.proofs.Follows.{following-start, following-base, following-next, following-end}
use Rattle.bases.proofs.places.base_of.Goals as goal

pub loop-init : goal.loop-init
loop-init c = rw sub-zero (following-start _ _ _)

pub returns-then-not-is_alias : goal.returns-then-not-is_alias
returns-then-not-is_alias c =
    following-base c.loop.invariant (omega arith) c.order_of-order.ensures c.record_of-r.ensures.bytes c.info_of.ensures c.kind_of.ensures
    c.is_alias.ensures (ap not c.if-not-is_alias.true)

pub loop-preserved : goal.loop-preserved
loop-preserved c =
    following-next c.loop.invariant (omega arith) c.order_of-order.ensures c.record_of-r.ensures.bytes c.info_of.ensures c.kind_of.ensures
    c.is_alias.ensures (ap not c.if-not-is_alias.false) c.third_of-at.ensures (omega arith)

pub returns : goal.returns
returns c = following-end c.loop.invariant (omega arith)
