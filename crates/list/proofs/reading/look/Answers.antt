-- `list::reading::look` meets its contract: 53 of either slice, 54 of a table that is too long, and else by the check.
use Rattle.std.specs.Prelude.{Err, Bool, true, false, leb, ℕ}
use mathlib.Core.Path.{◌≡◌, refl, sym, ap, ◌∙◌}
use Prim.Native.Nat.{◌≤◌, ◌<◌}
use native.Mathlib.Omega.{arith}
use borrow.Author.Tests.{leb-false, leb-true}
use lib.ListN.{length}
use lib.Seq.{length-take-le}
use Rattle.list.proofs.Readings.{look-ask, look-lent, look-long, look-made, look-output, look-refused, front_fits, front_long, laid-long, output-laid}
use Rattle.lists.specs.declared.MakeError.{MakeError}
use Rattle.paper.proofs.basics.Exits.{exit-same, mapped-err, mapped-ok}
use Rattle.paper.proofs.bytes.Bytes.{slice-bytes}
use Rattle.list.proofs.reading.look.Goals as goal

-- there is room
room : {z : Bool} {n m : ℕ} → z ≡ leb n m → z ≡ true → n ≤ m
room is e = leb-true _ _ (sym is ∙ e)

-- or there is none
short : {z : Bool} {n m : ℕ} → z ≡ leb n m → z ≡ false → m < n
short is e = leb-false _ _ (sym is ∙ e)

pub returns-then-not-holds : goal.returns-then-not-holds
returns-then-not-holds c =
    let a = c.args in
    let k = c.requires in
    look-output a.s.now _ _ _ a.out.now k.table k.index_clear k.work_clear (short c.holds.ensures c.if-not-holds.true)

pub returns-then-not-holds-2 : goal.returns-then-not-holds-2
returns-then-not-holds-2 c =
    let a = c.args in
    let k = c.requires in
    look-lent a.s.now _ _ _ a.out.now k.table k.index_clear k.work_clear (room c.holds.ensures c.if-not-holds.false) (short c.holds-2.ensures c.if-not-holds-2.true)

pub returns-then-not-holds-3 : goal.returns-then-not-holds-3
returns-then-not-holds-3 c =
    let a = c.args in
    let k = c.requires in
    look-long a.s.now _ _ _ a.out.now k.table (room c.holds.ensures c.if-not-holds.false) (room c.holds-2.ensures c.if-not-holds-2.false)
    (short c.holds-3.ensures c.if-not-holds-3.true) k.index_clear k.work_clear

pub slice_bounds-lay_checked-end : goal.slice_bounds-lay_checked-end
slice_bounds-lay_checked-end c = omega (arith, room c.holds-2.ensures c.if-not-holds-2.false)

pub slice_bounds-lay_checked-end-2 : goal.slice_bounds-lay_checked-end-2
slice_bounds-lay_checked-end-2 c = sym (length-take-le _ c.args.bytes.now (room c.holds-2.ensures c.if-not-holds-2.false))

pub lay_checked-requires : goal.lay_checked-requires
lay_checked-requires c =
    let a = c.args in
    let lent = room c.holds-2.ensures c.if-not-holds-2.false in
    look-ask a.s.now (length a.index.now) (length a.work.now) (length a.bytes.now) a.out.now c.requires.table (room c.holds.ensures c.if-not-holds.false) lent
    (slice-bytes a.s.now c.type_inv.s) (room c.holds-3.ensures c.if-not-holds-3.false) (length-take-le _ a.bytes.now lent)

pub slice_bounds-lay-end : goal.slice_bounds-lay-end
slice_bounds-lay-end c =
    let a = c.args in
    front_fits c.lay_checked.new.bytes _
    (laid-long a.s.now (length a.index.now) (length a.work.now) (length a.bytes.now) a.out.now c.requires.table (room c.holds.ensures c.if-not-holds.false)
    (room c.holds-2.ensures c.if-not-holds-2.false) c.lay_checked.ensures)

pub slice_bounds-lay-end-2 : goal.slice_bounds-lay-end-2
slice_bounds-lay-end-2 c =
    let a = c.args in
    front_long c.lay_checked.new.bytes _
    (laid-long a.s.now (length a.index.now) (length a.work.now) (length a.bytes.now) a.out.now c.requires.table (room c.holds.ensures c.if-not-holds.false)
    (room c.holds-2.ensures c.if-not-holds-2.false) c.lay_checked.ensures)

pub overflow_cast-result : goal.overflow_cast-result
overflow_cast-result c = omega (arith, room c.holds-3.ensures c.if-not-holds-3.false)

pub returns-in_err-map_err : goal.returns-in_err-map_err
returns-in_err-map_err c =
    let a = c.args in
    let (r, is, same) = mapped-err _ c.lay_checked.result c.map_err.ensures.cases c.in_err-map_err.was in
    rw (exit-same c.from_residual.result c.from_residual.ensures.1 ∙ ap (λ (x : MakeError). Err x) same)
    (look-refused a.s.now _ _ _ a.out.now c.requires.table (room c.holds.ensures c.if-not-holds.false) (room c.holds-2.ensures c.if-not-holds-2.false)
    c.lay_checked.ensures r is)

pub returns : goal.returns
returns c =
    let a = c.args in
    let out = room c.holds.ensures c.if-not-holds.false in
    let lent = room c.holds-2.ensures c.if-not-holds-2.false in
    look-made a.s.now _ _ _ a.out.now c.requires.table out lent c.lay_checked.ensures
    (mapped-ok _ c.lay_checked.result c.map_err.ensures.cases c.in_ok-map_err.was) refl
    (output-laid a.out.now c.lay_checked.new.bytes _
    (laid-long a.s.now (length a.index.now) (length a.work.now) (length a.bytes.now) a.out.now c.requires.table out lent c.lay_checked.ensures) out c.lay.ensures)
