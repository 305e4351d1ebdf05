-- `rows::roles::is_name` meets its contract: the second bound matters only where the first holds.
use borrow.Author.Tests.{le-leb, lt-leb}
use Rattle.rows.proofs.roles.is_name.Goals as goal

pub returns-then-role-ge1 : goal.returns-then-role-ge1
returns-then-role-ge1 c = simp (le-leb _ _ c.if-role-ge1.true)

pub returns-else-role-ge1 : goal.returns-else-role-ge1
returns-else-role-ge1 c = simp (lt-leb _ _ c.if-role-ge1.false)
