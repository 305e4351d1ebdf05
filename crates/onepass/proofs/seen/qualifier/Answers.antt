-- `onepass::seen::qualifier` meets its contract.
use mathlib.Core.Bool.{not}
use mathlib.Core.Path.{ap}
use mathlib.Core.Logic.{inl}
use mathlib.Core.Path.{refl}
use Rattle.onepass.proofs.ByKind.{told-qualifier}
use Rattle.onepass.proofs.seen.qualifier.Goals as goal

pub returns-then-not-nameless : goal.returns-then-not-nameless
returns-then-not-nameless c = inl refl

pub returns : goal.returns
returns c =
    told-qualifier _ _ _ _ _ c.nameless.ensures (ap not c.if-not-nameless.false) c.requires c.read.ensures
    c.behind_of.ensures
