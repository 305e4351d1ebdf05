-- `glance::fields::is_number` meets its contract.
use Rattle.glance.proofs.FieldsLeft.{number-integer, number-alias, number-other}
use Rattle.glance.proofs.fields.is_number.Goals as goal

pub returns-then-class-eq-INTEGER : goal.returns-then-class-eq-INTEGER
returns-then-class-eq-INTEGER c = number-integer c.if-class-eq-INTEGER.true

pub returns-then-class-eq-INTEGER_ALIAS : goal.returns-then-class-eq-INTEGER_ALIAS
returns-then-class-eq-INTEGER_ALIAS c = number-alias c.if-class-eq-INTEGER_ALIAS.true

pub returns : goal.returns
returns c = number-other c.if-class-eq-INTEGER.false c.if-class-eq-INTEGER_ALIAS.false
