-- `layout::members::members_ok` meets its contract. The loop's invariant: what is left of the members is asked what all are asked.
use Prim.Native.Nat.{◌+◌, ◌*◌}
use mathlib.Core.Path.{◌≡◌}
use mathlib.Core.Bool.{not}
use mathlib.Core.Path.{ap}
use mathlib.Core.Path.{refl}
use native.Mathlib.Omega.{arith}
use Rattle.layout.specs.Told.{recalled}
use Rattle.rows.proofs.RecordWords.{kind-read, flag-read, third-read}
use Rattle.layout.proofs.MembersLeft.{laying-start, laying-done, laying-bad, laying-falls, laying-next}
use Rattle.layout.proofs.members.members_ok.Goals as goal

pub loop-i-init : goal.loop-i-init
loop-i-init c = (
  _,
  omega arith,
  laying-start (recalled c.args.base.now c.args.b.now c.args.index.now c.args.view c.args.memo.now) c.args.view.order c.args.bytes.now
      c.read-info.ensures c.tail_words-n.ensures,
)

pub member_ok-requires : goal.member_ok-requires
member_ok-requires c = omega (arith, c.loop-i.invariant.2.near)

pub returns-then-not-member_ok : goal.returns-then-not-member_ok
returns-then-not-member_ok c =
    let bytes = c.args.bytes.now in
    let flag = flag-read _ bytes refl c.read-info.ensures c.flag_of-flag.ensures in
    let size = third-read _ bytes refl c.read-size.ensures in
    laying-bad c.loop-i.invariant.2 (omega arith) flag size c.member_ok.ensures (ap not c.if-not-member_ok.true)

pub returns-then-not-follows : goal.returns-then-not-follows
returns-then-not-follows c =
    let bytes = c.args.bytes.now in
    let flag = flag-read _ bytes refl c.read-info.ensures c.flag_of-flag.ensures in
    let size = third-read _ bytes refl c.read-size.ensures in
    let kind = kind-read _ bytes refl c.read-info.ensures c.kind_of-kind.ensures in
    laying-falls c.loop-i.invariant.2 (omega arith) flag size c.member_ok.ensures (ap not c.if-not-member_ok.false)
    c.read.ensures c.bit_offset-offset.ensures kind c.follows.ensures (ap not c.if-not-follows.true)

pub loop-i-preserved : goal.loop-i-preserved
loop-i-preserved c =
    let bytes = c.args.bytes.now in
    let flag = flag-read _ bytes refl c.read-info.ensures c.flag_of-flag.ensures in
    let size = third-read _ bytes refl c.read-size.ensures in
    let kind = kind-read _ bytes refl c.read-info.ensures c.kind_of-kind.ensures in
    let next : 12 + 12 * c.loop-i.i + 12 ≡ 12 + 12 * (c.loop-i.i + 1) = omega arith in (
      _,
      omega arith,
      rw next at
          (laying-next c.loop-i.invariant.2 (omega arith) flag size c.member_ok.ensures (ap not c.if-not-member_ok.false)
          c.read.ensures c.bit_offset-offset.ensures kind c.follows.ensures (ap not c.if-not-follows.false)),
    )

pub returns : goal.returns
returns c = laying-done c.loop-i.invariant.2 (omega arith)
