-- `layout::sections::section_ok` meets its contract. The loop's invariant: what is left of the entries is asked what all are asked.
use Prim.Native.Nat.{◌+◌, ◌*◌}
use mathlib.Core.Path.{◌≡◌}
use mathlib.Core.Bool.{not}
use mathlib.Core.Path.{ap}
use mathlib.Core.Path.{refl}
use native.Mathlib.Omega.{arith}
use Rattle.layout.specs.Told.{recalled}
use Rattle.rows.proofs.RecordWords.{third-read}
use Rattle.layout.proofs.EntriesLeft.{setting-start, setting-done, setting-short, setting-out, setting-next}
use Rattle.layout.proofs.sections.section_ok.Goals as goal

pub loop-i-init : goal.loop-i-init
loop-i-init c = (
  _,
  omega arith,
  setting-start (recalled c.args.base.now c.args.b.now c.args.index.now c.args.view c.args.memo.now) c.args.view.order c.args.bytes.now
      c.read.ensures c.tail_words-n.ensures,
)

pub returns-then-not-covers : goal.returns-then-not-covers
returns-then-not-covers c =
    setting-short c.loop-i.invariant.2 (omega arith) c.read-in-loop-i.ensures c.read-from.ensures c.read-size.ensures
    c.covers.ensures (ap not c.if-not-covers.true)

pub returns-then-not-placed : goal.returns-then-not-placed
returns-then-not-placed c =
    let bytes = c.args.bytes.now in
    setting-out c.loop-i.invariant.2 (omega arith) c.read-in-loop-i.ensures c.read-from.ensures c.read-size.ensures
    c.covers.ensures (ap not c.if-not-covers.false) (third-read _ bytes refl c.read-end.ensures) c.placed.ensures (ap not c.if-not-placed.true)

pub loop-i-preserved : goal.loop-i-preserved
loop-i-preserved c =
    let bytes = c.args.bytes.now in
    let next : 12 + 12 * c.loop-i.i + 12 ≡ 12 + 12 * (c.loop-i.i + 1) = omega arith in (
      _,
      omega arith,
      rw next at
          (setting-next c.loop-i.invariant.2 (omega arith) c.read-in-loop-i.ensures c.read-from.ensures c.read-size.ensures
          c.covers.ensures (ap not c.if-not-covers.false) (third-read _ bytes refl c.read-end.ensures) c.placed.ensures (ap not c.if-not-placed.false)),
    )

pub returns : goal.returns
returns c = setting-done c.loop-i.invariant.2 (omega arith)
