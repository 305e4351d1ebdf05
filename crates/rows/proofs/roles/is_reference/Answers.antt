-- `rows::roles::is_reference` meets its contract: the second bound matters only where the first holds.
use borrow.Author.Tests.{le-leb, lt-leb}
use Rattle.rows.proofs.roles.is_reference.Goals as goal

pub returns-then-role-ge7 : goal.returns-then-role-ge7
returns-then-role-ge7 c = simp (le-leb _ _ c.if-role-ge7.true)

pub returns-else-role-ge7 : goal.returns-else-role-ge7
returns-else-role-ge7 c = simp (lt-leb _ _ c.if-role-ge7.false)
