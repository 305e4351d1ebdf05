-- `idents::ended` meets its contract: the code is the definition.
use mathlib.Core.Path.{refl}
use borrow.Author.Tests.{lt-ltb, le-ltb, eq-eqb, ne_eqb}
use Rattle.idents.specs.Spelling.{left_at}
use Rattle.idents.proofs.ended.Goals as goal

pub returns-then-s-i : goal.returns-then-s-i
unfolding left_at
returns-then-s-i c = rw (le-ltb _ _ c.if-s-i.true) refl

pub returns-then-s-i-ne0 : goal.returns-then-s-i-ne0
unfolding left_at
returns-then-s-i-ne0 c = rw (lt-ltb _ _ c.if-s-i.false, ne_eqb _ _ c.if-s-i-ne0.true) refl

pub returns : goal.returns
unfolding left_at
returns c = rw (lt-ltb _ _ c.if-s-i.false, eq-eqb _ _ c.if-s-i-ne0.false) refl
