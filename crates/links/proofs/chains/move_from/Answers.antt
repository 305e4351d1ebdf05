-- `links::chains::move_from` meets its contract.
use Rattle.std.specs.Prelude.{None}
use Prim.Native.Nat.{ℕ}
use mathlib.Core.Path.{◌≡◌, refl, ap, ◌∙◌}
use native.Mathlib.Omega.{arith}
use lib.ListN.{set}
use Rattle.paper.specs.rules.Table.{record_at}
use Rattle.recall.specs.Recall.{mark_told}
use Rattle.views.specs.Shown.{table_by}
use Rattle.links.specs.Holding.{HeldIs, NextOpen}
use Rattle.links.specs.Search.{into, back}
use Rattle.links.proofs.HeldTypes.{told, next-type, next_small, few-types}
use Rattle.links.proofs.Ways.{mark-fits}
use Rattle.links.proofs.chains.move_from.Goals as goal

-- nothing that is held from there on is left
spent : (c : goal.Then-mark-eq1) → let a = c.args in HeldIs (record_at (table_by a.base.now a.b.now a.index.now a.view) a.t.0) a.work.now a.j None
spent c =
    told c.args.work.now _ c.record_of-bytes.ensures.shows c.in-None.is c.next_open.ensures

-- it gets the mark that is told
marked : (c : goal.Then-mark-eq1) → let a = c.args in
    set a.work.now a.t.0 c.mark_of.result
    ≡ set a.work.now a.t.0 (let T = table_by a.base.now a.b.now a.index.now a.view in mark_told a.work.now T (record_at T a.t.0))
marked c =
    let a = c.args in
    ap (λ (m : ℕ). set a.work.now a.t.0 m) (c.mark_of.ensures ∙ ap (mark_told a.work.now (table_by a.base.now a.b.now a.index.now a.view)) c.record_of-bytes.ensures.shows)

-- or a type is found
found : (c : goal.After-slice_known-in-Some-1-unread) → let a = c.args in
    NextOpen (record_at (table_by a.base.now a.b.now a.index.now a.view) a.t.0) a.work.now a.j c.in-Some.u.0 c.in-Some.k
found c =
    told c.args.work.now _ c.record_of-bytes.ensures.shows c.in-Some.is c.next_open.ensures

-- or a type is found
found-2 : (c : goal.Then-mark-ne0) → let a = c.args in
    NextOpen (record_at (table_by a.base.now a.b.now a.index.now a.view) a.t.0) a.work.now a.j c.in-Some.u.0 c.in-Some.k
found-2 c =
    told c.args.work.now _ c.record_of-bytes.ensures.shows c.in-Some.is c.next_open.ensures

-- or a type is found
found-3 : (c : goal.After-struct_known-in-Some-2-1) → let a = c.args in
    NextOpen (record_at (table_by a.base.now a.b.now a.index.now a.view) a.t.0) a.work.now a.j c.in-Some.u.0 c.in-Some.k
found-3 c =
    told c.args.work.now _ c.record_of-bytes.ensures.shows c.in-Some.is c.next_open.ensures

-- nothing that is held from there on is left
spent-2 : (c : goal.Else-mark-eq1) → let a = c.args in HeldIs (record_at (table_by a.base.now a.b.now a.index.now a.view) a.t.0) a.work.now a.j None
spent-2 c =
    told c.args.work.now _ c.record_of-bytes.ensures.shows c.in-None.is c.next_open.ensures

-- it gets the mark that is told
marked-2 : (c : goal.Else-mark-eq1) → let a = c.args in
    set a.work.now a.t.0 c.mark_of.result
    ≡ set a.work.now a.t.0 (let T = table_by a.base.now a.b.now a.index.now a.view in mark_told a.work.now T (record_at T a.t.0))
marked-2 c =
    let a = c.args in
    ap (λ (m : ℕ). set a.work.now a.t.0 m) (c.mark_of.ensures ∙ ap (mark_told a.work.now (table_by a.base.now a.b.now a.index.now a.view)) c.record_of-bytes.ensures.shows)

pub returns-then-mark-eq1 : goal.returns-then-mark-eq1
returns-then-mark-eq1 c = record { spent = spent c; outer = c.if-mark-eq1.true; marked = marked c }

pub bounds-work-to : goal.bounds-work-to
bounds-work-to c = omega (arith, next-type c.requires.0 c.args.t.0 (found c), c.requires.0.room)

pub returns-then-mark-ne0 : goal.returns-then-mark-ne0
returns-then-mark-ne0 c = record { type = c.in-Some.u.0; slot = c.in-Some.k; found = found-2 c; seen = c.if-mark-ne0.true }

pub overflow_add-work-in-Some : goal.overflow_add-work-in-Some
overflow_add-work-in-Some c =
    let small = next_small c.requires.0 c.args.t.0 (found-3 c) in
    omega (arith, mark-fits {p = c.args.t.0} (omega (arith, few-types c.requires.0, c.requires.1.high)) small)

pub bounds-work-to-in-Some : goal.bounds-work-to-in-Some
bounds-work-to-in-Some c = omega (arith, next-type c.requires.0 c.args.t.0 (found-3 c), c.requires.0.room)

pub returns-else-mark-eq1 : goal.returns-else-mark-eq1
returns-else-mark-eq1 c = back (spent-2 c) c.if-mark-eq1.false refl refl (marked-2 c)

pub returns-else-mark-ne0 : goal.returns-else-mark-ne0
returns-else-mark-ne0 c = into (found-3 c) c.if-mark-ne0.false refl refl
