-- `list::tables::put_list` meets its contract: record by record, what is laid and what is left are the list.
use Prim.Native.Nat.{ℕ, ◌+◌, ◌*◌}
use mathlib.Core.Path.{ap, ap₂, ◌∙◌}
use mathlib.Core.List.{List}
use native.Mathlib.Omega.{arith}
use Rattle.list.proofs.Walking.{Sections, Step, laying-done, laying-long, laying-next, laying-room, laying-start, sections, step_cut, walking-step}
use Rattle.lists.specs.List.{string_tag}
use Rattle.paper.proofs.bytes.Bytes.{part-rest}
use Rattle.paper.specs.declared.Order.{Order}
use Rattle.paper.specs.rules.Word.{word_at}
use Rattle.list.proofs.tables.put_list.Goals as goal

-- where the sections stand
here : (c : goal.After-blob_word) → Sections c.requires.0 c.blob_word.ensures
here c = sections c.requires.0 c.blob_word.ensures

-- where the sections stand
here-2 : (c : goal.After-string_tag) → Sections c.requires.0 c.blob_word.ensures
here-2 c = sections c.requires.0 c.blob_word.ensures

-- where the sections stand
here-3 : (c : goal.After-put_body-arg-2-1) → Sections c.requires.0 c.blob_word.ensures
here-3 c = sections c.requires.0 c.blob_word.ensures

-- where the sections stand
here-4 : (c : goal.After-slice_known-2-1) → Sections c.requires.0 c.blob_word.ensures
here-4 c = sections c.requires.0 c.blob_word.ensures

-- the record that comes next
step : (c : goal.After-tail_words) → Step c.loop-p.invariant.1.walk c.read-info.result (12 + 4 * c.tail_words.result)
step c =
    walking-step c.loop-p.invariant.1.walk c.loop-p-test.true
    (c.read-info.ensures ∙ ap₂ (λ (o : Order) (s : List ℕ). word_at o s 4) c.loop-p.invariant.0 (part-rest _ c.loop-p.p))
    (ap (λ (n : ℕ). 12 + 4 * n) c.tail_words.ensures)

-- the record that comes next
step-2 : (c : goal.After-kind_of) → Step c.loop-p.invariant.1.walk c.read-info.result (12 + 4 * c.tail_words.result)
step-2 c =
    walking-step c.loop-p.invariant.1.walk c.loop-p-test.true
    (c.read-info.ensures ∙ ap₂ (λ (o : Order) (s : List ℕ). word_at o s 4) c.loop-p.invariant.0 (part-rest _ c.loop-p.p))
    (ap (λ (n : ℕ). 12 + 4 * n) c.tail_words.ensures)

-- the record that comes next
step-3 : (c : goal.After-put_body-arg-in-loop-p-2-1) → Step c.loop-p.invariant.1.walk c.read-info.result (12 + 4 * c.tail_words.result)
step-3 c =
    walking-step c.loop-p.invariant.1.walk c.loop-p-test.true
    (c.read-info.ensures ∙ ap₂ (λ (o : Order) (s : List ℕ). word_at o s 4) c.loop-p.invariant.0 (part-rest _ c.loop-p.p))
    (ap (λ (n : ℕ). 12 + 4 * n) c.tail_words.ensures)

-- the record that comes next
step-4 : (c : goal.After-slice_known-in-loop-p-1) → Step c.loop-p.invariant.1.walk c.read-info.result (12 + 4 * c.tail_words.result)
step-4 c =
    walking-step c.loop-p.invariant.1.walk c.loop-p-test.true
    (c.read-info.ensures ∙ ap₂ (λ (o : Order) (s : List ℕ). word_at o s 4) c.loop-p.invariant.0 (part-rest _ c.loop-p.p))
    (ap (λ (n : ℕ). 12 + 4 * n) c.tail_words.ensures)

-- the record that comes next
step-5 : (c : goal.After-fields_len-q-in-loop-p) → Step c.loop-p.invariant.1.walk c.read-info.result (12 + 4 * c.tail_words.result)
step-5 c =
    walking-step c.loop-p.invariant.1.walk c.loop-p-test.true
    (c.read-info.ensures ∙ ap₂ (λ (o : Order) (s : List ℕ). word_at o s 4) c.loop-p.invariant.0 (part-rest _ c.loop-p.p))
    (ap (λ (n : ℕ). 12 + 4 * n) c.tail_words.ensures)

pub overflow_add-end : goal.overflow_add-end
overflow_add-end c = let s = here c in omega (arith, s.sum, s.short)

pub slice_bounds-put_body-count : goal.slice_bounds-put_body-count
slice_bounds-put_body-count c = let s = here-2 c in omega (arith, s.sum, s.short)

pub slice_bounds-put_body-start : goal.slice_bounds-put_body-start
slice_bounds-put_body-start c = let s = here-2 c in omega (arith, s.sum, s.short)

pub put_body-requires : goal.put_body-requires
put_body-requires c =
    let s = here-3 c in
    (omega (arith, s.sum, s.short), omega (arith, c.requires.1, laying-room c.requires.0 c.blob_word.ensures))

pub overflow_sub-b : goal.overflow_sub-b
overflow_sub-b c = let s = here-4 c in omega (arith, s.sum, s.short)

pub fields_len-q-requires : goal.fields_len-q-requires
fields_len-q-requires c = let s = here-4 c in omega (arith, s.sum, s.short)

pub loop-p-init : goal.loop-p-init
loop-p-init c =
    let o = c.order_of-order.ensures in
    (o, laying-start c.requires.0 c.blob_word.ensures c.fields_len-q.ensures c.args.out.now c.requires.1 (c.string_tag.ensures ∙ ap string_tag o) c.put_body.ensures)

pub slice_bounds-read-start : goal.slice_bounds-read-start
slice_bounds-read-start c = let w = c.loop-p.invariant.1.walk in omega (arith, w.inside, c.loop-p-test.true)

pub overflow_mul-size : goal.overflow_mul-size
overflow_mul-size c = let s = step c in let w = c.loop-p.invariant.1.walk in omega (arith, s.high, w.inside, w.short)

pub overflow_add-size : goal.overflow_add-size
overflow_add-size c = let s = step c in let w = c.loop-p.invariant.1.walk in omega (arith, s.high, w.inside, w.short)

pub overflow_add-next : goal.overflow_add-next
overflow_add-next c = let s = step c in let w = c.loop-p.invariant.1.walk in omega (arith, s.high, w.inside, w.short)

pub slice_bounds-put_body-count-in-loop-p : goal.slice_bounds-put_body-count-in-loop-p
slice_bounds-put_body-count-in-loop-p c = let s = step-2 c in let w = c.loop-p.invariant.1.walk in omega (arith, s.high, s.low, w.inside, w.short)

pub slice_bounds-put_body-start-in-loop-p : goal.slice_bounds-put_body-start-in-loop-p
slice_bounds-put_body-start-in-loop-p c = let s = step-2 c in let w = c.loop-p.invariant.1.walk in omega (arith, s.high, s.low, w.inside, w.short)

pub slice_bounds-put_body-end-in-loop-p : goal.slice_bounds-put_body-end-in-loop-p
slice_bounds-put_body-end-in-loop-p c = let s = step-2 c in let w = c.loop-p.invariant.1.walk in omega (arith, s.high, s.low, w.inside, w.short)

pub put_body-requires-in-loop-p : goal.put_body-requires-in-loop-p
put_body-requires-in-loop-p c =
    let s = step-3 c in
    let l = c.loop-p.invariant.1 in
    let n = step_cut s in
    (omega (arith, s.high, l.walk.inside, l.walk.short), omega (arith, s.room, laying-long l))

pub fields_len-q-requires-in-loop-p : goal.fields_len-q-requires-in-loop-p
fields_len-q-requires-in-loop-p c = let s = step-4 c in let w = c.loop-p.invariant.1.walk in omega (arith, s.high, w.inside, w.short)

pub overflow_add-q : goal.overflow_add-q
overflow_add-q c = let s = step-5 c in let w = c.loop-p.invariant.1.walk in omega (arith, c.fields_len-q-in-loop-p.ensures, s.room, w.few)

pub loop-p-smaller : goal.loop-p-smaller
loop-p-smaller c = let s = step-5 c in omega (arith, s.high, s.low)

pub loop-p-preserved : goal.loop-p-preserved
loop-p-preserved c =
    let s = step-5 c in
    (c.loop-p.invariant.0, laying-next c.loop-p.invariant.1 s c.kind_of.ensures c.put_body-in-loop-p.ensures c.fields_len-q-in-loop-p.ensures)

pub returns : goal.returns
returns c = laying-done c.loop-p.invariant.1 c.loop-p-test.false
