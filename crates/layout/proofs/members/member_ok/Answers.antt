-- `layout::members::member_ok` meets its contract: its span ends in time.
use Prim.Native.Nat.{◌*◌}
use native.Mathlib.Omega.{arith}
use Rattle.layout.specs.Told.{recalled}
use Rattle.spans.specs.Spanned.{member_at}
use Rattle.layout.proofs.MembersLeft.{span-read}
use Rattle.layout.proofs.members.member_ok.Goals as goal

pub overflow_add-second : goal.overflow_add-second
overflow_add-second c = omega (arith, c.requires)

pub overflow_add-third : goal.overflow_add-third
overflow_add-third c = omega (arith, c.requires)

pub returns : goal.returns
returns c =
    span-read (recalled c.args.base.now c.args.b.now c.args.index.now c.args.view c.args.memo.now) c.args.flag (8 * c.args.size)
    (member_at c.args.view.order c.args.bytes.now c.args.at.0) c.read.ensures c.read-offset.ensures
    c.span_told-span.result c.span_told-span.ensures c.span_ends.ensures
