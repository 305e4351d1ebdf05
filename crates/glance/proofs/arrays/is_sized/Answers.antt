-- `glance::arrays::is_sized` meets its contract.
use Rattle.glance.proofs.Elements.{sized-whole, sized-integer, sized-alias, sized-other}
use Rattle.glance.proofs.arrays.is_sized.Goals as goal

pub returns-then-class-eq-WHOLE : goal.returns-then-class-eq-WHOLE
returns-then-class-eq-WHOLE c = sized-whole c.if-class-eq-WHOLE.true

pub returns-then-class-eq-INTEGER : goal.returns-then-class-eq-INTEGER
returns-then-class-eq-INTEGER c = sized-integer c.if-class-eq-INTEGER.true

pub returns-then-class-eq-INTEGER_ALIAS : goal.returns-then-class-eq-INTEGER_ALIAS
returns-then-class-eq-INTEGER_ALIAS c = sized-alias c.if-class-eq-INTEGER_ALIAS.true

pub returns : goal.returns
returns c = sized-other c.if-class-eq-WHOLE.false c.if-class-eq-INTEGER.false c.if-class-eq-INTEGER_ALIAS.false
