-- `sizes::step_by` meets its contract: a case for each rule, and the words that it reads.
use mathlib.Core.Path.{ap, ap₂}
use Rattle.paper.specs.rules.Size.{Step, is, many_of}
use Rattle.sizes.proofs.SizeSteps.{size_rule_of-other}
use Rattle.sizes.proofs.step_by.Goals as goal

pub returns-in-2 : goal.returns-in-2
returns-in-2 c = rw c.in-2.is (ap {B = Step} is c.read.ensures)

pub returns-in-3 : goal.returns-in-3
returns-in-3 c = rw c.in-3.is (ap₂ {C = Step} many_of c.read-in-3.ensures c.read-in-3-2.ensures)

pub returns-in-4 : goal.returns-in-4
returns-in-4 c = rw c.in-4.is (ap {B = Step} (many_of 1) c.read-in-4.ensures)

pub returns-in_default : goal.returns-in_default
returns-in_default c = let r = c.in_default.in_default-own.rest in rw (size_rule_of-other _ r.0.0.0.1 r.0.0.1 r.0.1 r.1)
