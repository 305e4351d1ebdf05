-- `rows::info::is_known` meets its contract: the second bound matters only where the first holds.
use borrow.Author.Tests.{le-leb, lt-leb}
use Rattle.rows.proofs.info.is_known.Goals as goal

pub returns-then-kind-ge-INT : goal.returns-then-kind-ge-INT
returns-then-kind-ge-INT c = simp (le-leb _ _ c.if-kind-ge-INT.true)

pub returns-else-kind-ge-INT : goal.returns-else-kind-ge-INT
returns-else-kind-ge-INT c = simp (lt-leb _ _ c.if-kind-ge-INT.false)
