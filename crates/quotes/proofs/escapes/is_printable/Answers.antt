-- `quotes::escapes::is_printable` meets its contract.
use mathlib.Core.Path.{refl}
use borrow.Author.Tests.{le-leb, lt-leb}
use Rattle.quotes.specs.Escape.{is_printable}
use Rattle.quotes.proofs.escapes.is_printable.Goals as goal

pub returns-then-b-ge32 : goal.returns-then-b-ge32
unfolding is_printable
returns-then-b-ge32 c = rw (le-leb _ _ c.if-b-ge32.true) refl

pub returns-else-b-ge32 : goal.returns-else-b-ge32
unfolding is_printable
returns-else-b-ge32 c = rw (lt-leb _ _ c.if-b-ge32.false) refl
