-- `refs::by_rule` meets its contract: a case for each rule.
use mathlib.Core.Path.{refl, ap, ◌∙◌}
use borrow.Author.Tests.{eq-eqb, ne_eqb}
use Rattle.refs.proofs.References.{ref_rule_of-other}
use Rattle.refs.specs.Refers.{ref_by}
use Rattle.paper.specs.rules.Kind.{RefRule}
use Rattle.refs.proofs.by_rule.Goals as goal

pub returns-then-t-eq0 : goal.returns-then-t-eq0
returns-then-t-eq0 c = rw (c.in-0.is, eq-eqb c.args.t 0 c.if-t-eq0.true) refl

pub returns-else-t-eq0 : goal.returns-else-t-eq0
returns-else-t-eq0 c = rw (c.in-0.is, ne_eqb c.args.t 0 c.if-t-eq0.false) c.is_plain.ensures

pub returns-in-1 : goal.returns-in-1
returns-in-1 c = rw c.in-1.is c.is_plain-in-1.ensures

pub returns-in-2 : goal.returns-in-2
returns-in-2 c = rw c.in-2.is refl

pub returns-in-3 : goal.returns-in-3
returns-in-3 c = rw c.in-3.is refl

pub returns-in-4 : goal.returns-in-4
returns-in-4 c = rw c.in-4.is refl

pub returns-in_default : goal.returns-in_default
returns-in_default c =
    let r = c.in_default.in_default-own.rest in
    let a = c.args in
    c.is_taggable.ensures
    ∙ ap (λ (rule : RefRule). ref_by rule a.t a.kind) (ref_rule_of-other a.rule r.0.0.0.0.1 r.0.0.0.1 r.0.0.1 r.0.1 r.1)
