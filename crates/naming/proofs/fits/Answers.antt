-- `naming::fits` meets its contract: a case for each rule.
use mathlib.Core.Path.{refl, ap, ◌∙◌}
use borrow.Author.Tests.{eq-eqb, ne_eqb}
use Rattle.paper.specs.rules.Kind.{NameRule}
use Rattle.paper.specs.rules.Name.{name_in}
use Rattle.paper.specs.rules.Names.{name_fits}
use Rattle.idents.proofs.NameTests.{non_empty-first}
use Rattle.naming.proofs.NameRoles.{name_rule_of-other}
use Rattle.naming.proofs.fits.Goals as goal

pub returns-in-1 : goal.returns-in-1
returns-in-1 c = rw c.in-1.is refl

pub returns-then-whole-eq0 : goal.returns-then-whole-eq0
returns-then-whole-eq0 c =
    let a = c.args in
    rw (c.in-3.is, eq-eqb a.off.0 0 c.if-whole-eq0.true) refl

pub returns-else-whole-eq0 : goal.returns-else-whole-eq0
returns-else-whole-eq0 c =
    let a = c.args in
    rw (c.in-3.is, ne_eqb a.off.0 0 c.if-whole-eq0.false) c.is_identifier.ensures

pub returns-in-4 : goal.returns-in-4
returns-in-4 c = rw c.in-4.is c.is_identifier-in-4.ensures

pub returns-in-5 : goal.returns-in-5
returns-in-5 c =
    let a = c.args in
    rw c.in-5.is (non_empty-first a.strings.now a.at.0 c.requires)

pub returns-in_default : goal.returns-in_default
returns-in_default c =
    let a = c.args in
    let r = c.in_default.in_default-own.rest in
    c.section_name.ensures
    ∙ ap (λ (rule : NameRule). name_fits rule a.off.0 (name_in a.strings.now a.at.0))
    (name_rule_of-other a.rule r.0.0.0.0.1 r.0.0.0.1 r.0.0.1 r.0.1 r.1)
