-- `glance::fields::fields_fit` meets its contract. The loop's invariant: where what is left of the members lies inside, all do.
use Prim.Native.Nat.{◌+◌, ◌*◌}
use mathlib.Core.Path.{◌≡◌}
use mathlib.Core.Bool.{not}
use mathlib.Core.Path.{ap}
use mathlib.Core.Bool.{false≢true}
use mathlib.Core.Path.{refl}
use native.Mathlib.Omega.{arith}
use Rattle.glance.proofs.FieldsLeft.{lying-start, lying-done, lying-next}
use Rattle.rows.proofs.RecordWords.{kind-read, third-read}
use Rattle.glance.proofs.fields.fields_fit.Goals as goal

pub loop-i-init : goal.loop-i-init
loop-i-init c = (
  _,
  omega arith,
  lying-start c.args.work.now c.args.order c.args.bytes.now c.requires c.read-info.ensures c.tail_words-n.ensures,
)

pub returns-then-not-field_fits : goal.returns-then-not-field_fits
returns-then-not-field_fits c = λ e. absurd (false≢true e)

pub returns-then-not-follows : goal.returns-then-not-follows
returns-then-not-follows c = λ e. absurd (false≢true e)

pub loop-i-preserved : goal.loop-i-preserved
loop-i-preserved c =
    let bytes = c.args.bytes.now in
    let next : 12 + 12 * c.loop-i.i + 12 ≡ 12 + 12 * (c.loop-i.i + 1) = omega arith in (
      _,
      omega arith,
      rw next at
          (lying-next c.loop-i.invariant.2 (omega arith) (third-read _ bytes refl c.read-size.ensures) c.read-word.ensures c.read-u.ensures
          c.state_of.ensures c.field_fits.ensures (ap not c.if-not-field_fits.false) (kind-read _ bytes refl c.read-info.ensures c.kind_of-kind.ensures)
          c.follows.ensures (ap not c.if-not-follows.false)),
    )

pub returns : goal.returns
returns c = λ e. lying-done c.loop-i.invariant.2 (omega arith)
