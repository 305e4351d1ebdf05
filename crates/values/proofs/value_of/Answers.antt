-- `values::value_of` meets its contract: the refusal of the rule that is due, or what the span says.
use mathlib.Core.Path.{◌∙◌}
use native.Mathlib.Omega.{arith}
use lib.Dec.{eqb}
use lib.ListN.{length}
use Rattle.values.proofs.FoundRules.{number-plain, due-none, number-refused}
use Rattle.values.proofs.GivenValues.{given-parts, given-none, given-due}
use Rattle.values.specs.Given.{found_as_paper}
use Rattle.values.proofs.value_of.Goals as goal

pub judge-number-requires : goal.judge-number-requires
judge-number-requires c = tt

pub refused-requires : goal.refused-requires
refused-requires c =
    let a = c.args in
    (number-refused a.m (length a.s.now) c.judge-number.ensures c.if-number-gt1.true).1

pub returns-then-number-gt1 : goal.returns-then-number-gt1
returns-then-number-gt1 c =
    let a = c.args in
    c.refused.ensures
    ∙ given-due (found_as_paper a.m) a.s.now (number-refused a.m (length a.s.now) c.judge-number.ensures c.if-number-gt1.true).0

pub value_at-requires : goal.value_at-requires
value_at-requires c =
    let a = c.args in
    due-none (found_as_paper a.m) (length a.s.now) (number-plain a.m (length a.s.now) c.judge-number.ensures (omega arith)).0

pub bytes_at-requires : goal.bytes_at-requires
bytes_at-requires c =
    let a = c.args in
    let i = due-none (found_as_paper a.m) (length a.s.now) (number-plain a.m (length a.s.now) c.judge-number.ensures (omega arith)).0 in
    (i.1, i.2)

pub returns : goal.returns
returns c =
    let a = c.args in
    given-parts a.s.now a.m.from a.m.bits (eqb c.judge-number.result 1) c.value_at.ensures c.bytes_at.ensures
    ∙ given-none (found_as_paper a.m) a.s.now (number-plain a.m (length a.s.now) c.judge-number.ensures (omega arith))
