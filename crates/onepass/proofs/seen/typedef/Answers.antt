-- `onepass::seen::typedef` meets its contract.
use mathlib.Core.Bool.{not}
use mathlib.Core.Path.{ap}
use mathlib.Core.Logic.{inl}
use mathlib.Core.Path.{refl}
use Rattle.onepass.proofs.ByKind.{told-typedef}
use Rattle.onepass.proofs.seen.typedef.Goals as goal

pub returns-then-off-eq0 : goal.returns-then-off-eq0
returns-then-off-eq0 c = inl refl

pub returns-then-not-optional_ok : goal.returns-then-not-optional_ok
returns-then-not-optional_ok c = inl refl

pub returns : goal.returns
returns c =
    told-typedef _ _ _ _ _ c.read-off.ensures c.optional_ok.ensures (ap not c.if-not-optional_ok.false) c.requires c.if-off-eq0.false
    c.read.ensures c.behind_of.ensures
