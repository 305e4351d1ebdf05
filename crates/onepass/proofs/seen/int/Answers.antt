-- `onepass::seen::int` meets its contract.
use mathlib.Core.Bool.{not}
use mathlib.Core.Path.{ap}
use mathlib.Core.Logic.{inl}
use mathlib.Core.Path.{refl}
use Rattle.onepass.proofs.ByKind.{told-int, told-odd}
use Rattle.onepass.proofs.seen.int.Goals as goal

pub returns-then-not-third_allowed : goal.returns-then-not-third_allowed
returns-then-not-third_allowed c = inl refl

pub returns-then-not-inside : goal.returns-then-not-inside
returns-then-not-inside c = inl refl

pub returns-then-not-int_ok : goal.returns-then-not-int_ok
returns-then-not-int_ok c = inl refl

pub returns-then-not-int_whole : goal.returns-then-not-int_whole
returns-then-not-int_whole c =
    told-odd _ _ _ _ _ c.requires c.read-word.ensures c.read-size.ensures c.read-off.ensures c.third_allowed.ensures
    (ap not c.if-not-third_allowed.false) c.inside.ensures (ap not c.if-not-inside.false) c.int_ok.ensures (ap not c.if-not-int_ok.false)

pub returns : goal.returns
returns c =
    told-int _ _ _ _ _ c.requires c.read-word.ensures c.read-size.ensures c.read-off.ensures c.third_allowed.ensures
    (ap not c.if-not-third_allowed.false) c.inside.ensures (ap not c.if-not-inside.false) c.int_ok.ensures (ap not c.if-not-int_ok.false) c.int_whole.ensures (ap not c.if-not-int_whole.false) c.whole_int.ensures
