-- `taking::bodies::carry` meets its contract: field by field, as long as the last one has the most bytes.
use Rattle.taking.proofs.Carrying.{carrying-bad, carrying-done, carrying-next, carrying-other, carrying-start}
use Rattle.taking.proofs.bodies.carry.Goals as goal

pub loop-last-init : goal.loop-last-init
loop-last-init c = carrying-start c.args.tag c.requires

pub returns-in-Err : goal.returns-in-Err
returns-in-Err c = carrying-bad c.loop-last.invariant c.loop-last-test.true _ (rw c.in-Err.is at c.take_field.ensures)

pub returns-then-next-ne-CARRY : goal.returns-then-next-ne-CARRY
returns-then-next-ne-CARRY c =
    carrying-other c.loop-last.invariant c.loop-last-test.true (rw c.in-Ok.is at c.take_field.ensures) c.if-next-ne-CARRY.true

pub loop-last-preserved : goal.loop-last-preserved
loop-last-preserved c =
    carrying-next c.loop-last.invariant c.loop-last-test.true (rw c.in-Ok.is at c.take_field.ensures) c.if-next-ne-CARRY.false

pub returns : goal.returns
returns c = carrying-done c.loop-last.invariant c.loop-last-test.false
