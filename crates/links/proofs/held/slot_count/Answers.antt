-- `links::held::slot_count` meets its contract: one for each member, none, or one.
use mathlib.Core.Path.{refl}
use borrow.Author.Tests.{eq-eqb, ne_eqb}
use Rattle.links.proofs.held.slot_count.Goals as goal

pub returns-then-place-eq16 : goal.returns-then-place-eq16
returns-then-place-eq16 c = rw (eq-eqb _ _ c.if-place-eq16.true) c.vlen_of.ensures

pub returns-then-place-eq0 : goal.returns-then-place-eq0
returns-then-place-eq0 c = rw (ne_eqb _ _ c.if-place-eq16.false, eq-eqb _ _ c.if-place-eq0.true) refl

pub returns : goal.returns
returns c = rw (ne_eqb _ _ c.if-place-eq16.false, ne_eqb _ _ c.if-place-eq0.false) refl
