-- `onepass::forth::forth` meets its contract. The loop's invariant: `Passing`.
use mathlib.Core.Path.{refl}
use native.Mathlib.Omega.{arith}
use Rattle.onepass.proofs.Passing.{passing-start, stepped-own, passing-further, passing-next, passing-done, passing-all}
use Rattle.onepass.proofs.forth.forth.Goals as goal

pub returns-then-most-eq0 : goal.returns-then-most-eq0
returns-then-most-eq0 c = tt

pub loop-at-init : goal.loop-at-init
loop-at-init c =
    passing-start c.requires (omega (arith, c.lower-most.ensures, c.lower-places.ensures)) (omega (arith, c.lower-most.ensures, c.lower-places.ensures))
    (omega (arith, c.lower-most.ensures)) c.if-most-eq0.false

pub returns-then-most-k : goal.returns-then-most-k
returns-then-most-k c = tt

pub overflow_add-k-in-loop-at : goal.overflow_add-k-in-loop-at
overflow_add-k-in-loop-at c = omega (arith, c.loop-at.invariant.most_types, c.if-most-k.false)

pub step-next-requires : goal.step-next-requires
step-next-requires c =
    let inv = c.loop-at.invariant in (
      omega (arith, c.if-most-k.false, inv.index_kept, inv.most_index),
      omega (arith, c.if-most-k.false, inv.work_kept, inv.most_work),
      omega (arith, c.loop-at-test.true),
      inv.stands.inside,
    )

pub returns-then-next-eq0 : goal.returns-then-next-eq0
returns-then-next-eq0 c = tt

pub bounds-work-k : goal.bounds-work-k
bounds-work-k c =
    let inv = c.loop-at.invariant in
    omega (arith, c.step-next.auto.work, c.if-most-k.false, inv.work_kept, inv.most_work)

pub loop-at-smaller : goal.loop-at-smaller
loop-at-smaller c =
    let more = c.loop-at-test.true in
    let told = stepped-own c.requires c.step-next.ensures c.if-next-eq0.false in
    let further = passing-further c.loop-at.invariant more (omega (arith, c.if-most-k.false)) told c.is_open-unsettled.ensures refl in
    omega (arith, further, more)

pub loop-at-preserved : goal.loop-at-preserved
loop-at-preserved c =
    passing-next c.loop-at.invariant c.loop-at-test.true (omega (arith, c.if-most-k.false)) (stepped-own c.requires c.step-next.ensures c.if-next-eq0.false)
    c.is_open-unsettled.ensures refl

pub returns-then-unsettled : goal.returns-then-unsettled
returns-then-unsettled c = passing-done c.loop-at.invariant c.loop-at-test.false

pub returns : goal.returns
returns c =
    let l = c.loop-at.invariant in
    let done = c.loop-at-test.false in
    (passing-done l done, passing-all l done c.if-unsettled.false)
