-- `list::tables::list_len` meets its contract: record by record, what is counted and what is left are the list.
use Prim.Native.Nat.{ℕ, ◌+◌, ◌*◌}
use mathlib.Core.Path.{sym, ap, ap₂, ◌∙◌, subst}
use mathlib.Core.List.{List}
use native.Mathlib.Omega.{arith}
use lib.ListN.{length}
use Rattle.list.proofs.Walking.{Walking, Step, Sections, sections, walking_start, walking-step, walking-done}
use Rattle.paper.proofs.bytes.Bytes.{part-rest}
use Rattle.paper.specs.declared.Order.{Order}
use Rattle.paper.specs.rules.Word.{word_at}
use Rattle.list.proofs.tables.list_len.Goals as goal

-- where the sections stand
here : (c : goal.After-blob_word) → Sections c.requires c.blob_word.ensures
here c = sections c.requires c.blob_word.ensures

-- the record that comes next
step : (c : goal.After-tail_words) → Step c.loop-p.invariant.1 c.read-info.result (12 + 4 * c.tail_words.result)
step c =
    let b = c.args.b.now in
    let p = c.loop-p.p in
    walking-step c.loop-p.invariant.1 c.loop-p-test.true
    (c.read-info.ensures ∙ ap₂ (λ (o : Order) (s : List ℕ). word_at o s 4) c.loop-p.invariant.0 (part-rest b p))
    (ap (λ (n : ℕ). 12 + 4 * n) c.tail_words.ensures)

-- the record that comes next
step-2 : (c : goal.After-fields_len-total-in-loop-p) → Step c.loop-p.invariant.1 c.read-info.result (12 + 4 * c.tail_words.result)
step-2 c =
    let b = c.args.b.now in
    let p = c.loop-p.p in
    walking-step c.loop-p.invariant.1 c.loop-p-test.true
    (c.read-info.ensures ∙ ap₂ (λ (o : Order) (s : List ℕ). word_at o s 4) c.loop-p.invariant.0 (part-rest b p))
    (ap (λ (n : ℕ). 12 + 4 * n) c.tail_words.ensures)

pub overflow_add-end : goal.overflow_add-end
overflow_add-end c = let s = here c in omega (arith, s.sum, s.short)

pub overflow_sub-b : goal.overflow_sub-b
overflow_sub-b c = let s = here c in omega (arith, s.sum, s.short)

pub fields_len-total-requires : goal.fields_len-total-requires
fields_len-total-requires c = let s = here c in omega (arith, s.sum, s.short)

pub loop-p-init : goal.loop-p-init
loop-p-init c = (c.order_of-order.ensures, walking_start c.requires c.blob_word.ensures c.fields_len-total.ensures)

pub slice_bounds-read-start : goal.slice_bounds-read-start
slice_bounds-read-start c = let w = c.loop-p.invariant.1 in omega (arith, w.inside, c.loop-p-test.true)

pub overflow_mul-size : goal.overflow_mul-size
overflow_mul-size c = let s = step c in let w = c.loop-p.invariant.1 in omega (arith, s.high, w.inside, w.short)

pub overflow_add-size : goal.overflow_add-size
overflow_add-size c = let s = step c in let w = c.loop-p.invariant.1 in omega (arith, s.high, w.inside, w.short)

pub fields_len-total-requires-in-loop-p : goal.fields_len-total-requires-in-loop-p
fields_len-total-requires-in-loop-p c = let s = step c in let w = c.loop-p.invariant.1 in omega (arith, s.high, w.inside, w.short)

pub overflow_add-total : goal.overflow_add-total
overflow_add-total c = let s = step-2 c in let w = c.loop-p.invariant.1 in omega (arith, c.fields_len-total-in-loop-p.ensures, s.room, w.few)

pub overflow_add-p : goal.overflow_add-p
overflow_add-p c = let s = step-2 c in let w = c.loop-p.invariant.1 in omega (arith, s.high, w.inside, w.short)

pub loop-p-smaller : goal.loop-p-smaller
loop-p-smaller c = let s = step-2 c in omega (arith, s.high, s.low)

pub loop-p-preserved : goal.loop-p-preserved
loop-p-preserved c =
    let s = step-2 c in
    let b = c.args.b.now in (
      c.loop-p.invariant.0,
      subst (λ (k : ℕ). Walking b (24 + c.blob_word.result) (c.loop-p.p + (12 + 4 * c.tail_words.result)) (c.loop-p.total + k)) (sym c.fields_len-total-in-loop-p.ensures) s.next,
    )

pub returns : goal.returns
returns c = let w = c.loop-p.invariant.1 in w.long ∙ ap length (walking-done w c.loop-p-test.false)
