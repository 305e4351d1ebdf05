-- `list::making::put_table` meets its contract: the header, the strings, and record by record those that the list has.
use Prim.Native.Nat.{ℕ, ◌+◌, ◌*◌}
use mathlib.Core.Path.{ap, ◌∙◌}
use native.Mathlib.Omega.{arith}
use lib.ListN.{length}
use Rattle.list.proofs.Makings.{MakeStep, known, making-done, making-more, making-start, making-step}
use Rattle.list.specs.Making.{front_of}
use Rattle.paper.proofs.bytes.Puts.{length-put}
use Rattle.list.proofs.making.put_table.Goals as goal

-- the record that comes next
step : (c : goal.After-tail_words) → MakeStep c.loop-p.invariant (12 + 4 * c.tail_words.result)
step c =
    making-step c.loop-p.invariant c.loop-p-test.true c.read-info.ensures (ap (λ (n : ℕ). 12 + 4 * n) c.tail_words.ensures)

-- the record that comes next
step-2 : (c : goal.After-gather_body-arg-in-loop-p-1) → MakeStep c.loop-p.invariant (12 + 4 * c.tail_words.result)
step-2 c =
    making-step c.loop-p.invariant c.loop-p-test.true c.read-info.ensures (ap (λ (n : ℕ). 12 + 4 * n) c.tail_words.ensures)

-- the record that comes next
step-3 : (c : goal.After-slice_known-in-loop-p-1) → MakeStep c.loop-p.invariant (12 + 4 * c.tail_words.result)
step-3 c =
    making-step c.loop-p.invariant c.loop-p-test.true c.read-info.ensures (ap (λ (n : ℕ). 12 + 4 * n) c.tail_words.ensures)

-- the record that comes next
step-4 : (c : goal.After-fields_len-p-in-loop-p) → MakeStep c.loop-p.invariant (12 + 4 * c.tail_words.result)
step-4 c =
    making-step c.loop-p.invariant c.loop-p-test.true c.read-info.ensures (ap (λ (n : ℕ). 12 + 4 * n) c.tail_words.ensures)

pub put_front-requires : goal.put_front-requires
put_front-requires c = let k = known c.requires in omega (arith, k.sum)

pub overflow_add-behind : goal.overflow_add-behind
overflow_add-behind c = let k = known c.requires in omega (arith, k.sum, k.short)

pub gather_body-requires : goal.gather_body-requires
gather_body-requires c =
    let a = c.args in
    let k = known c.requires in
    let kept = ap length c.put_front.ensures ∙ length-put a.out.now 0 (front_of a.order a.types a.strings) (omega (arith, k.sum)) in
    (omega (arith, k.sum, k.short), omega (arith, k.strings-fit), omega (arith, kept, k.sum))

pub fields_len-p-requires : goal.fields_len-p-requires
fields_len-p-requires c = let k = known c.requires in omega (arith, k.sum, k.short)

pub loop-p-init : goal.loop-p-init
loop-p-init c = making-start c.args.out.now c.requires c.put_front.ensures c.gather_body.ensures c.fields_len-p.ensures

pub overflow_add-from : goal.overflow_add-from
overflow_add-from c = let m = c.loop-p.invariant in omega (arith, (known m.ask).few, c.loop-p-test.true)

pub slice_bounds-read-count : goal.slice_bounds-read-count
slice_bounds-read-count c = let m = c.loop-p.invariant in omega (arith, making-more m c.loop-p-test.true)

pub slice_bounds-read-start : goal.slice_bounds-read-start
slice_bounds-read-start c = let m = c.loop-p.invariant in omega (arith, making-more m c.loop-p-test.true)

pub overflow_mul-size : goal.overflow_mul-size
overflow_mul-size c = let k = known c.loop-p.invariant.ask in omega (arith, (step c).high, k.sum, k.short)

pub overflow_add-size : goal.overflow_add-size
overflow_add-size c = let k = known c.loop-p.invariant.ask in omega (arith, (step c).high, k.sum, k.short)

pub gather_body-requires-in-loop-p : goal.gather_body-requires-in-loop-p
gather_body-requires-in-loop-p c =
    let s = step-2 c in
    let k = known c.loop-p.invariant.ask in
    (omega (arith, s.high, k.sum, k.short), s.fields, omega (arith, s.high, k.sum))

pub overflow_add-q : goal.overflow_add-q
overflow_add-q c =
    let k = known c.loop-p.invariant.ask in
    omega (arith, (step-3 c).high, k.sum, k.short)

pub fields_len-p-requires-in-loop-p : goal.fields_len-p-requires-in-loop-p
fields_len-p-requires-in-loop-p c =
    let k = known c.loop-p.invariant.ask in
    omega (arith, (step-3 c).high, k.sum, k.short)

pub overflow_add-p : goal.overflow_add-p
overflow_add-p c =
    let k = known c.loop-p.invariant.ask in
    omega (arith, c.fields_len-p-in-loop-p.ensures, (step-4 c).fields, k.few)

pub loop-p-smaller : goal.loop-p-smaller
loop-p-smaller c =
    let s = step-4 c in
    omega (arith, c.fields_len-p-in-loop-p.ensures, s.fields, s.low)

pub loop-p-preserved : goal.loop-p-preserved
loop-p-preserved c = (step-4 c).next _ c.gather_body-in-loop-p.ensures _ c.fields_len-p-in-loop-p.ensures

pub returns : goal.returns
returns c = making-done c.loop-p.invariant c.loop-p-test.false
