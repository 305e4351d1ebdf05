-- `values::judging::judge_span` meets its contract: each rule in its turn.
use Rattle.values.proofs.FoundRules.{late-short, late-refused, late-no-bits, late-many-bits, late-behind, late-inside}
use Rattle.values.proofs.judging.judge_span.Goals as goal

pub returns-then-len-size : goal.returns-then-len-size
returns-then-len-size c = late-short c.args.number c.requires c.args.size c.args.from c.args.bits c.args.len c.if-len-size.true

pub returns-then-number-gt1 : goal.returns-then-number-gt1
returns-then-number-gt1 c = late-refused c.args.number c.requires c.args.size c.args.from c.args.bits c.args.len c.if-len-size.false c.if-number-gt1.true

pub returns-then-bits-eq0 : goal.returns-then-bits-eq0
returns-then-bits-eq0 c = late-no-bits c.args.number c.requires c.args.size c.args.from c.args.bits c.args.len c.if-len-size.false c.if-number-gt1.false c.if-bits-eq0.true

pub returns-then-bits-gt128 : goal.returns-then-bits-gt128
returns-then-bits-gt128 c = late-many-bits c.args.number c.requires c.args.size c.args.from c.args.bits c.args.len c.if-len-size.false c.if-number-gt1.false c.if-bits-eq0.false c.if-bits-gt128.true

pub returns-then-len-end : goal.returns-then-len-end
returns-then-len-end c = late-behind c.args.number c.requires c.args.size c.args.from c.args.bits c.args.len c.if-len-size.false c.if-number-gt1.false c.if-bits-eq0.false c.if-bits-gt128.false c.if-len-end.true

pub returns : goal.returns
returns c = late-inside c.args.number c.requires c.args.size c.args.from c.args.bits c.args.len c.if-len-size.false c.if-number-gt1.false c.if-bits-eq0.false c.if-bits-gt128.false c.if-len-end.false
