-- `links::held::next_open` meets its contract: all that is held by the slots that were passed is done.
use native.Mathlib.Omega.{arith}
use Rattle.links.proofs.Looks.{looking-start, looking-few, looking-next, looking-found, looking-done, slots_read}
use Rattle.links.proofs.held.next_open.Goals as goal

pub loop-i-init : goal.loop-i-init
loop-i-init c = looking-start _ _ _ _ (slots_read _ _ c.read-info.ensures c.kind_of.ensures c.held_place-place.ensures c.slot_count-end.ensures)

pub overflow_mul-at : goal.overflow_mul-at
overflow_mul-at c = omega (arith, looking-few c.loop-i.invariant)

pub overflow_add-at : goal.overflow_add-at
overflow_add-at c = omega (arith, looking-few c.loop-i.invariant)

pub returns-then-is_open : goal.returns-then-is_open
returns-then-is_open c = looking-found c.loop-i.invariant c.loop-i-test.true c.read-u.ensures c.is_open.ensures c.if-is_open.true

pub loop-i-preserved : goal.loop-i-preserved
loop-i-preserved c = looking-next c.loop-i.invariant c.loop-i-test.true c.read-u.ensures c.is_open.ensures c.if-is_open.false

pub returns : goal.returns
returns c = looking-done c.loop-i.invariant c.loop-i-test.false
