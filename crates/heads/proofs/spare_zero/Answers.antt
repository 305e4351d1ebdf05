-- `heads::spare_zero` meets its contract: the first part that is not 0 decides.
use borrow.Author.Tests.{eq-eqb, ne_eqb}
use Rattle.paper.specs.rules.Heads.{spare_zero}
use Rattle.heads.proofs.spare_zero.Goals as goal

pub returns-then-info-ne0 : goal.returns-then-info-ne0
unfolding spare_zero
returns-then-info-ne0 c = simp (ne_eqb _ 0 c.if-info-ne0.true)

pub returns : goal.returns
unfolding spare_zero
returns c = simp (eq-eqb _ 0 c.if-info-ne0.false)
