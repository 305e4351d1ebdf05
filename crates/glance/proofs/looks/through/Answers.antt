-- `glance::looks::through` meets its contract.
use Rattle.glance.proofs.Looking.{through-int, through-none, through-proto, through_same}
use Rattle.glance.proofs.looks.through.Goals as goal

pub returns-then-class-eq-INTEGER : goal.returns-then-class-eq-INTEGER
returns-then-class-eq-INTEGER c = through-int _ c.if-class-eq-INTEGER.true

pub returns-then-class-ge-STORED : goal.returns-then-class-ge-STORED
returns-then-class-ge-STORED c = through-none _ c.if-class-eq-INTEGER.false c.if-class-ge-STORED.true

pub returns-then-class-eq-NAMED : goal.returns-then-class-eq-NAMED
returns-then-class-eq-NAMED c = through-proto _ c.if-class-eq-INTEGER.false c.if-class-ge-STORED.false c.if-class-eq-NAMED.true

pub returns : goal.returns
returns c = through_same _ c.if-class-eq-INTEGER.false c.if-class-ge-STORED.false c.if-class-eq-NAMED.false
