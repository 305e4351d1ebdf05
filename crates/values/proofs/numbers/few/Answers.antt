-- `values::numbers::few` meets its contract. What is passed is the number of the last bytes.
use native.Mathlib.Omega.{arith}
use lib.ListN.{length-reverse, length-append}
use Rattle.std.proofs.lemmas.Iterator.Adapters.{YieldsList-from_rev_slice}
use Rattle.std.proofs.lemmas.Iterator.Consumers.{YieldsList-turn, YieldsList-end}
use Rattle.values.proofs.ReadBytes.{few-start, few-below, few-byte, few-turn, few-done}
use Rattle.values.proofs.numbers.few.Goals as goal

pub loop-c-init : goal.loop-c-init
loop-c-init c = few-start c.args.s.now (omega arith)

pub overflow_mul-n : goal.overflow_mul-n
overflow_mul-n c = let b = few-below c.args.s.now c.requires c.loop-c.invariant in omega arith

pub overflow_add-n : goal.overflow_add-n
overflow_add-n c =
    let t = YieldsList-turn (YieldsList-from_rev_slice c.args.s.now (cc)) c.loop-c.yielded _ c.loop-c.yielded_by _ _ c.in-Some.c c.in-Some.is c.next.ensures.steps in
    let b = few-below c.args.s.now c.requires c.loop-c.invariant in
    omega (arith, few-byte c.args.s.now t (λ i. (c.type_inv.s i).fits))

pub loop-c-preserved : goal.loop-c-preserved
loop-c-preserved c =
    let t = YieldsList-turn (YieldsList-from_rev_slice c.args.s.now (cc)) c.loop-c.yielded _ c.loop-c.yielded_by _ _ c.in-Some.c c.in-Some.is c.next.ensures.steps in
    few-turn c.args.s.now t (λ i. (c.type_inv.s i).fits) c.loop-c.invariant (length-append c.loop-c.yielded _)

pub returns : goal.returns
returns c =
    let t = YieldsList-end (YieldsList-from_rev_slice c.args.s.now (cc)) c.loop-c.yielded _ c.loop-c.yielded_by _ _ c.in-None.is c.next.ensures.steps in
    few-done c.args.s.now c.loop-c.invariant (omega (arith, t.1, length-reverse c.args.s.now))
