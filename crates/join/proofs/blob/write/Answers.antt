-- `join::blob::write` meets its contract: each part is put behind the one before.
use Prim.Native.Nat.{ℕ, ◌+◌, ◌-◌}
use mathlib.Core.Path.{refl, sym, ap, ap₂, ◌∙◌}
use native.Mathlib.Omega.{arith}
use lib.ListN.{length}
use Rattle.join.proofs.JoinedParts.{Lengths, write-lengths, write-parts}
use Rattle.shift.proofs.MadeHeaders.{header-put}
use Rattle.join.proofs.blob.write.Goals as goal

-- the lengths as they are read
lengths : (c : goal.After-blob_word-second_strings) → let a = c.args in
    Lengths c.blob_word-first.result c.blob_word-first_strings.result c.blob_word-second.result c.blob_word-second_strings.result
    (length a.a.now) (length a.b.now) (length a.out.now)
lengths c =
    write-lengths c.requires c.blob_word-first.ensures c.blob_word-first_strings.ensures
    c.blob_word-second.ensures c.blob_word-second_strings.ensures

-- the lengths as they are read
lengths-2 : (c : goal.After-lay-arg-1) → let a = c.args in
    Lengths c.blob_word-first.result c.blob_word-first_strings.result c.blob_word-second.result c.blob_word-second_strings.result
    (length a.a.now) (length a.b.now) (length a.out.now)
lengths-2 c =
    write-lengths c.requires c.blob_word-first.ensures c.blob_word-first_strings.ensures
    c.blob_word-second.ensures c.blob_word-second_strings.ensures

-- the lengths as they are read
lengths-3 : (c : goal.After-slice_known-3-1) → let a = c.args in
    Lengths c.blob_word-first.result c.blob_word-first_strings.result c.blob_word-second.result c.blob_word-second_strings.result
    (length a.a.now) (length a.b.now) (length a.out.now)
lengths-3 c =
    write-lengths c.requires c.blob_word-first.ensures c.blob_word-first_strings.ensures
    c.blob_word-second.ensures c.blob_word-second_strings.ensures

-- the lengths as they are read
lengths-4 : (c : goal.After-raise_records-arg-1) → let a = c.args in
    Lengths c.blob_word-first.result c.blob_word-first_strings.result c.blob_word-second.result c.blob_word-second_strings.result
    (length a.a.now) (length a.b.now) (length a.out.now)
lengths-4 c =
    write-lengths c.requires c.blob_word-first.ensures c.blob_word-first_strings.ensures
    c.blob_word-second.ensures c.blob_word-second_strings.ensures

-- the lengths as they are read
lengths-5 : (c : goal.After-lay-arg-3-1) → let a = c.args in
    Lengths c.blob_word-first.result c.blob_word-first_strings.result c.blob_word-second.result c.blob_word-second_strings.result
    (length a.a.now) (length a.b.now) (length a.out.now)
lengths-5 c =
    write-lengths c.requires c.blob_word-first.ensures c.blob_word-first_strings.ensures
    c.blob_word-second.ensures c.blob_word-second_strings.ensures

-- the lengths as they are read
lengths-6 : (c : goal.After-lay-arg-5-1) → let a = c.args in
    Lengths c.blob_word-first.result c.blob_word-first_strings.result c.blob_word-second.result c.blob_word-second_strings.result
    (length a.a.now) (length a.b.now) (length a.out.now)
lengths-6 c =
    write-lengths c.requires c.blob_word-first.ensures c.blob_word-first_strings.ensures
    c.blob_word-second.ensures c.blob_word-second_strings.ensures

-- the lengths as they are read
lengths-7 : (c : goal.After-slice_known-6-1) → let a = c.args in
    Lengths c.blob_word-first.result c.blob_word-first_strings.result c.blob_word-second.result c.blob_word-second_strings.result
    (length a.a.now) (length a.b.now) (length a.out.now)
lengths-7 c =
    write-lengths c.requires c.blob_word-first.ensures c.blob_word-first_strings.ensures
    c.blob_word-second.ensures c.blob_word-second_strings.ensures

pub overflow_add-types : goal.overflow_add-types
overflow_add-types c = let l = lengths c in omega arith

pub overflow_sub-strings : goal.overflow_sub-strings
overflow_sub-strings c = let l = lengths c in omega arith

pub overflow_add-strings : goal.overflow_add-strings
overflow_add-strings c = let l = lengths c in omega arith

pub slice_bounds-lay-end : goal.slice_bounds-lay-end
slice_bounds-lay-end c = let l = lengths-2 c in omega arith

pub overflow_sub-names : goal.overflow_sub-names
overflow_sub-names c = let l = lengths-3 c in omega arith

pub slice_bounds-raise_records-count : goal.slice_bounds-raise_records-count
slice_bounds-raise_records-count c = let l = lengths-3 c in omega arith

pub slice_bounds-raise_records-start : goal.slice_bounds-raise_records-start
slice_bounds-raise_records-start c = let l = lengths-3 c in omega arith

pub slice_bounds-raise_records-count-2 : goal.slice_bounds-raise_records-count-2
slice_bounds-raise_records-count-2 c =
    let l = lengths-4 c in
    omega (arith, c.lay.auto.out, c.put_header.auto.out)

pub slice_bounds-raise_records-start-2 : goal.slice_bounds-raise_records-start-2
slice_bounds-raise_records-start-2 c =
    let l = lengths-4 c in
    omega (arith, c.lay.auto.out, c.put_header.auto.out)

pub slice_bounds-lay-count-2 : goal.slice_bounds-lay-count-2
slice_bounds-lay-count-2 c =
    let l = lengths-5 c in
    omega arith

pub slice_bounds-lay-start-2 : goal.slice_bounds-lay-start-2
slice_bounds-lay-start-2 c =
    let l = lengths-5 c in
    omega arith

pub slice_bounds-lay-count-3 : goal.slice_bounds-lay-count-3
slice_bounds-lay-count-3 c =
    let l = lengths-6 c in
    omega arith

pub slice_bounds-lay-start-3 : goal.slice_bounds-lay-start-3
slice_bounds-lay-start-3 c =
    let l = lengths-6 c in
    omega arith

pub returns : goal.returns
returns c =
    let l = lengths-7 c in
    let headed = sym (header-put _ c.args.a.now _ _ c.args.out.now (omega arith) (omega arith)) in
    write-parts c.requires _ c.order_of-order.ensures refl (ap (λ (n : ℕ). n - 1) c.blob_word-first_strings.ensures)
    (ap₂ (λ (x y : ℕ). x + y) c.blob_word-first.ensures c.blob_word-second.ensures)
    (ap₂ (λ (x y : ℕ). x + (y - 1)) c.blob_word-first_strings.ensures c.blob_word-second_strings.ensures)
    c.args.out.now c.blob_word-first.ensures c.blob_word-second.ensures c.blob_word-first_strings.ensures refl
    (c.put_header.ensures ∙ headed) c.lay.ensures c.raise_records.ensures c.lay-2.ensures c.lay-3.ensures
    c.put_header.auto.out c.lay.auto.out c.lay-2.auto.out
