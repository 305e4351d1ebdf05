-- `glance::looks::members_fit` meets its contract. The loop's invariant: what is left of the members is asked what all are asked.
use Prim.Native.Nat.{◌+◌, ◌*◌}
use mathlib.Core.Path.{◌≡◌}
use mathlib.Core.Bool.{not}
use mathlib.Core.Path.{ap}
use mathlib.Core.Path.{refl}
use native.Mathlib.Omega.{arith}
use Rattle.glance.proofs.FitsLeft.{fitting-start, fitting-done, fitting-bad, fitting-falls, fitting-next}
use Rattle.rows.proofs.RecordWords.{kind-read, third-read}
use Rattle.glance.proofs.looks.members_fit.Goals as goal

pub loop-i-init : goal.loop-i-init
loop-i-init c = (
  _,
  omega arith,
  fitting-start c.args.work.now c.args.order c.args.bytes.now c.requires c.read-info.ensures c.tail_words-n.ensures,
)

pub returns-then-not-fits : goal.returns-then-not-fits
returns-then-not-fits c =
    let bytes = c.args.bytes.now in
    fitting-bad c.loop-i.invariant.2 (omega arith) (third-read _ bytes refl c.read-size.ensures) c.read-offset.ensures c.read-u.ensures c.state_of.ensures
    c.fits.ensures (ap not c.if-not-fits.true)

pub returns-then-not-follows : goal.returns-then-not-follows
returns-then-not-follows c =
    let bytes = c.args.bytes.now in
    fitting-falls c.loop-i.invariant.2 (omega arith) (third-read _ bytes refl c.read-size.ensures) c.read-offset.ensures c.read-u.ensures c.state_of.ensures
    c.fits.ensures (ap not c.if-not-fits.false) (kind-read _ bytes refl c.read-info.ensures c.kind_of-kind.ensures) c.follows.ensures (ap not c.if-not-follows.true)

pub loop-i-preserved : goal.loop-i-preserved
loop-i-preserved c =
    let bytes = c.args.bytes.now in
    let next : 12 + 12 * c.loop-i.i + 12 ≡ 12 + 12 * (c.loop-i.i + 1) = omega arith in (
      _,
      omega arith,
      rw next at
          (fitting-next c.loop-i.invariant.2 (omega arith) (third-read _ bytes refl c.read-size.ensures) c.read-offset.ensures c.read-u.ensures c.state_of.ensures
          c.fits.ensures (ap not c.if-not-fits.false) (kind-read _ bytes refl c.read-info.ensures c.kind_of-kind.ensures) c.follows.ensures (ap not c.if-not-follows.false)),
    )

pub returns : goal.returns
returns c = fitting-done c.loop-i.invariant.2 (omega arith)
