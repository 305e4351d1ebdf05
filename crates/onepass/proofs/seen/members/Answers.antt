-- `onepass::seen::members` meets its contract. The loop's invariant: what is left of the members is asked what all are asked, the states as long as all fit.
use mathlib.Core.Bool.{not}
use mathlib.Core.Path.{refl, ap}
use mathlib.Core.Logic.{inl}
use native.Mathlib.Omega.{arith}
use Rattle.onepass.proofs.Telling.{telling-start, telling-next, telling-open, telling-done}
use Rattle.onepass.proofs.seen.members.Goals as goal

pub loop-i-init : goal.loop-i-init
loop-i-init c = telling-start _ _ _ _ _ c.requires.0 c.requires.1

pub returns-then-not-optional_ok : goal.returns-then-not-optional_ok
returns-then-not-optional_ok c = inl refl

pub loop-i-preserved : goal.loop-i-preserved
loop-i-preserved c =
    telling-next c.loop-i.invariant c.requires.0 (omega (arith, c.vlen_of-i-end.ensures)) c.read.ensures c.optional_ok.ensures
    (ap not c.if-not-optional_ok.false) c.requires.2 c.read-offset.ensures c.read-u.ensures c.state_of.ensures c.fits.ensures
    c.kind_of-union.ensures c.follows.ensures

pub returns-then-not-all : goal.returns-then-not-all
returns-then-not-all c = telling-open c.loop-i.invariant (omega (arith, c.vlen_of-i-end.ensures))

pub returns : goal.returns
returns c =
    telling-done c.loop-i.invariant (omega (arith, c.vlen_of-i-end.ensures)) (ap not c.if-not-all.false) c.requires.2 c.whole_bytes.ensures
