-- `glance::stored::entries_fit` meets its contract. The loop's invariant: where what is left of the entries fits, all do.
use Prim.Native.Nat.{◌+◌, ◌*◌}
use mathlib.Core.Path.{◌≡◌}
use mathlib.Core.Bool.{not}
use mathlib.Core.Path.{ap}
use mathlib.Core.Bool.{false≢true}
use mathlib.Core.Path.{refl}
use native.Mathlib.Omega.{arith}
use Rattle.glance.proofs.EntriesFit.{entering-start, entering-done, entering-next}
use Rattle.rows.proofs.RecordWords.{third-read}
use Rattle.glance.proofs.stored.entries_fit.Goals as goal

pub loop-i-init : goal.loop-i-init
loop-i-init c = (
  _,
  omega arith,
  entering-start c.args.work.now c.args.order c.args.bytes.now c.read.ensures c.tail_words-n.ensures,
)

pub returns-then-not-covers : goal.returns-then-not-covers
returns-then-not-covers c = λ e. absurd (false≢true e)

pub returns-then-not-placed : goal.returns-then-not-placed
returns-then-not-placed c = λ e. absurd (false≢true e)

pub loop-i-preserved : goal.loop-i-preserved
loop-i-preserved c =
    let bytes = c.args.bytes.now in
    let next : 12 + 12 * c.loop-i.i + 12 ≡ 12 + 12 * (c.loop-i.i + 1) = omega arith in (
      _,
      omega arith,
      rw next at
          (entering-next c.loop-i.invariant.2 (omega arith) c.read-size.ensures c.read-from.ensures c.read-in-loop-i.ensures c.state_of-s.ensures
          c.covers.ensures (ap not c.if-not-covers.false) (third-read _ bytes refl c.read-end.ensures) c.placed.ensures (ap not c.if-not-placed.false)),
    )

pub returns : goal.returns
returns c = λ e. entering-done c.loop-i.invariant.2 (omega arith)
