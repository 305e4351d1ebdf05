-- `quotes::escapes::is_special` meets its contract.
use mathlib.Core.Path.{refl}
use borrow.Author.Tests.{eq-eqb, ne_eqb}
use Rattle.quotes.specs.Escape.{is_special}
use Rattle.quotes.proofs.escapes.is_special.Goals as goal

pub returns-then-b-eq34 : goal.returns-then-b-eq34
unfolding is_special
returns-then-b-eq34 c = rw (eq-eqb _ _ c.if-b-eq34.true) refl

pub returns-else-b-eq34 : goal.returns-else-b-eq34
unfolding is_special
returns-else-b-eq34 c = rw (ne_eqb _ _ c.if-b-eq34.false) refl
