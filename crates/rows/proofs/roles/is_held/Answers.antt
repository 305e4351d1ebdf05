-- `rows::roles::is_held` meets its contract: the second bound matters only where the first holds.
use native.Mathlib.Omega.{arith}
use borrow.Author.Tests.{le-leb, lt-leb}
use Rattle.rows.proofs.roles.is_held.Goals as goal

pub returns-then-role-ge13 : goal.returns-then-role-ge13
returns-then-role-ge13 c = simp (le-leb 13 c.args.role (omega (arith, c.if-role-ge13.true)))

pub returns-else-role-ge13 : goal.returns-else-role-ge13
returns-else-role-ge13 c = simp (lt-leb 13 c.args.role (omega (arith, c.if-role-ge13.false)))
