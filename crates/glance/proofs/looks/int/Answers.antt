-- `glance::looks::int` meets its contract.
use mathlib.Core.Bool.{not}
use mathlib.Core.Path.{ap}
use mathlib.Core.Logic.{inl}
use mathlib.Core.Path.{refl}
use Rattle.glance.proofs.Looking.{looks-int}
use Rattle.glance.proofs.looks.int.Goals as goal

pub returns-then-not-int_whole : goal.returns-then-not-int_whole
returns-then-not-int_whole c = inl refl

pub returns : goal.returns
returns c = looks-int _ _ _ c.requires c.read-word.ensures c.read-z.ensures c.int_whole.ensures (ap not c.if-not-int_whole.false) c.whole_int.ensures
