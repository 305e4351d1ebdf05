-- `naming::optional::optional_ok` meets its contract: offset 0, past both sections, or by the section that holds it.
use Rattle.naming.proofs.OptionalNames.{optional-none, optional-past, optional-named}
use Rattle.naming.proofs.optional.optional_ok.Goals as goal

pub returns-then-off-eq0 : goal.returns-then-off-eq0
returns-then-off-eq0 c = optional-none _ _ _ c.if-off-eq0.true c.inside.ensures

pub returns-then-section-from : goal.returns-then-section-from
returns-then-section-from c = optional-past _ _ _ c.section_of-section.ensures c.place_in-from.ensures c.if-section-from.true

pub returns : goal.returns
returns c =
    optional-named _ _ _ c.section_of-section.ensures c.place_in-from.ensures c.if-off-eq0.false c.if-section-from.false
    c.is_identifier.ensures
