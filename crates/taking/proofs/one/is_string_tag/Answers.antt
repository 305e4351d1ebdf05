-- `taking::one::is_string_tag` meets its contract: the second tag matters only where the first is not it.
use borrow.Author.Tests.{eq-eqb, ne_eqb}
use Rattle.taking.proofs.one.is_string_tag.Goals as goal

pub returns-then-tag-eq32 : goal.returns-then-tag-eq32
returns-then-tag-eq32 c = simp (eq-eqb _ _ c.if-tag-eq32.true)

pub returns-else-tag-eq32 : goal.returns-else-tag-eq32
returns-else-tag-eq32 c = simp (ne_eqb _ _ c.if-tag-eq32.false)
