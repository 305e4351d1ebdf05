-- `onepass::seen::pointer` meets its contract.
use mathlib.Core.Bool.{not}
use mathlib.Core.Path.{ap}
use mathlib.Core.Logic.{inl}
use mathlib.Core.Path.{refl}
use Rattle.onepass.proofs.ByKind.{told-open, told-pointer}
use Rattle.onepass.proofs.seen.pointer.Goals as goal

pub returns-then-not-nameless : goal.returns-then-not-nameless
returns-then-not-nameless c = inl refl

pub returns-then-behind_of-eq0 : goal.returns-then-behind_of-eq0
returns-then-behind_of-eq0 c = told-open _ _ _ _ _ c.nameless.ensures (ap not c.if-not-nameless.false) c.requires

pub returns : goal.returns
returns c =
    told-pointer _ _ _ _ _ c.nameless.ensures (ap not c.if-not-nameless.false) c.requires c.read.ensures
    c.behind_of.ensures c.if-behind_of-eq0.false
