-- `naming::section_of` meets its contract.
use Rattle.naming.proofs.NameRoles.{section-first, section-second}
use Rattle.naming.proofs.section_of.Goals as goal

pub returns-then-off-base : goal.returns-then-off-base
returns-then-off-base c = section-first _ _ c.if-off-base.true

pub returns : goal.returns
returns c = section-second _ _ c.if-off-base.false
