-- `join::whole::join_accepted` meets its contract: the orders, the limits one after the other, then the writing.
use Prim.Native.Nat.{◌+◌, ◌-◌}
use mathlib.Core.Path.{refl, sym, ◌∙◌}
use native.Mathlib.Omega.{arith}
use lib.ListN.{length}
use lib.Seq.{length-take-le}
use Rattle.join.proofs.JoinAnswers.{few-accepted, same-as, two-orders, one-order, limit-types, limit-bytes, limit-room, write-ask, limit-none}
use Rattle.join.proofs.whole.join_accepted.Goals as goal

pub returns-then-ne : goal.returns-then-ne
returns-then-ne c =
    two-orders c.requires c.args.out.now (same-as c.order_of.result c.order_of-2.result) c.order_of.ensures c.order_of-2.ensures (sym c.ne.ensures ∙ c.if-ne.true)

pub overflow_add-n : goal.overflow_add-n
overflow_add-n c = let f = few-accepted c.requires in omega arith

pub returns-then-n-m-gt-TYPE_LIMIT : goal.returns-then-n-m-gt-TYPE_LIMIT
returns-then-n-m-gt-TYPE_LIMIT c = limit-types c.requires c.args.out.now (one-order c.requires c.args.out.now (same-as c.order_of.result c.order_of-2.result) c.order_of.ensures c.order_of-2.ensures (sym c.ne.ensures ∙ c.if-ne.false)) c.if-n-m-gt-TYPE_LIMIT.true

pub overflow_sub-len : goal.overflow_sub-len
overflow_sub-len c = let f = few-accepted c.requires in omega arith

pub returns-then-len-gt-BYTE_LIMIT : goal.returns-then-len-gt-BYTE_LIMIT
returns-then-len-gt-BYTE_LIMIT c = limit-bytes c.requires c.args.out.now (one-order c.requires c.args.out.now (same-as c.order_of.result c.order_of-2.result) c.order_of.ensures c.order_of-2.ensures (sym c.ne.ensures ∙ c.if-ne.false)) c.if-n-m-gt-TYPE_LIMIT.false refl c.if-len-gt-BYTE_LIMIT.true

pub returns-then-out-len : goal.returns-then-out-len
returns-then-out-len c =
    limit-room c.requires c.args.out.now (one-order c.requires c.args.out.now (same-as c.order_of.result c.order_of-2.result) c.order_of.ensures c.order_of-2.ensures (sym c.ne.ensures ∙ c.if-ne.false)) c.if-n-m-gt-TYPE_LIMIT.false refl c.if-len-gt-BYTE_LIMIT.false
    c.if-out-len.true

pub slice_bounds-write-end-2 : goal.slice_bounds-write-end-2
slice_bounds-write-end-2 c = sym (length-take-le (length c.args.a.now + length c.args.b.now - 25) c.args.out.now c.if-out-len.false)

pub write-requires : goal.write-requires
write-requires c =
    write-ask c.requires c.args.out.now (one-order c.requires c.args.out.now (same-as c.order_of.result c.order_of-2.result) c.order_of.ensures c.order_of-2.ensures (sym c.ne.ensures ∙ c.if-ne.false)) c.if-n-m-gt-TYPE_LIMIT.false refl c.if-len-gt-BYTE_LIMIT.false
    c.if-out-len.false
    (length-take-le (length c.args.a.now + length c.args.b.now - 25) c.args.out.now c.if-out-len.false)

pub returns : goal.returns
returns c =
    limit-none c.requires c.args.out.now (one-order c.requires c.args.out.now (same-as c.order_of.result c.order_of-2.result) c.order_of.ensures c.order_of-2.ensures (sym c.ne.ensures ∙ c.if-ne.false)) c.if-n-m-gt-TYPE_LIMIT.false refl c.if-len-gt-BYTE_LIMIT.false
    c.if-out-len.false c.write.ensures
