-- `glance::looks::starts` meets its contract.
use Rattle.glance.proofs.Looking.{starts-whole, starts-bit, starts-alias, starts-not, starts-enum}
use Rattle.glance.proofs.looks.starts.Goals as goal

pub returns-then-class-eq-WHOLE : goal.returns-then-class-eq-WHOLE
returns-then-class-eq-WHOLE c =
    let a = c.args in
    starts-whole a.class a.offset c.if-class-eq-WHOLE.true

pub returns-then-class-eq-INTEGER : goal.returns-then-class-eq-INTEGER
returns-then-class-eq-INTEGER c = starts-bit _ c.args.offset c.if-class-eq-INTEGER.true

pub returns-then-class-eq-INTEGER_ALIAS : goal.returns-then-class-eq-INTEGER_ALIAS
returns-then-class-eq-INTEGER_ALIAS c = starts-alias _ c.args.offset c.if-class-eq-INTEGER_ALIAS.true

pub returns-then-class-ne-ENUMERATED : goal.returns-then-class-ne-ENUMERATED
returns-then-class-ne-ENUMERATED c = starts-not _ c.args.offset c.if-class-eq-WHOLE.false c.if-class-eq-INTEGER.false c.if-class-eq-INTEGER_ALIAS.false c.if-class-ne-ENUMERATED.true

pub returns : goal.returns
returns c =
    let a = c.args in
    starts-enum a.class a.offset c.if-class-ne-ENUMERATED.false
