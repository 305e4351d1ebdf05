-- `replay::cases::opening_of` meets its contract: the first word that differs decides.
use mathlib.Core.Path.{refl}
use borrow.Author.Tests.{eq-eqb, ne_eqb}
use Rattle.replay.proofs.cases.opening_of.Goals as goal

pub returns-then-word-ne1448231763 : goal.returns-then-word-ne1448231763
returns-then-word-ne1448231763 c = rw (← c.word.ensures, ne_eqb _ _ c.if-word-ne1448231763.true) refl

pub returns-then-word-ne1 : goal.returns-then-word-ne1
returns-then-word-ne1 c = rw (← c.word.ensures, ← c.word-2.ensures, eq-eqb _ _ c.if-word-ne1448231763.false, ne_eqb _ _ c.if-word-ne1.true) refl

pub returns : goal.returns
returns c =
    rw (
      ← c.word.ensures,
      ← c.word-2.ensures,
      ← c.word-3.ensures,
      eq-eqb _ _ c.if-word-ne1448231763.false,
      eq-eqb _ _ c.if-word-ne1.false,
    )
    refl
