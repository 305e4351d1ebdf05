-- `list::written::listed` meets its contract: 53, or the list in front of what was there.
use mathlib.Core.Path.{sym, ◌∙◌}
use native.Mathlib.Omega.{arith}
use lib.Seq.{length-take-le}
use Rattle.list.proofs.Writings.{list-short, listed-made, listed-short}
use Rattle.list.proofs.written.listed.Goals as goal

pub returns-then-out-len : goal.returns-then-out-len
returns-then-out-len c =
    let a = c.args in
    listed-short a.b.now a.out.now (omega (arith, c.if-out-len.true, c.list_len-len.ensures))

pub slice_bounds-put_list-end-2 : goal.slice_bounds-put_list-end-2
slice_bounds-put_list-end-2 c = sym (length-take-le _ c.args.out.now c.if-out-len.false)

pub put_list-requires : goal.put_list-requires
put_list-requires c = (c.requires, length-take-le _ c.args.out.now c.if-out-len.false ∙ c.list_len-len.ensures)

pub overflow_cast-result : goal.overflow_cast-result
overflow_cast-result c = omega (arith, list-short c.requires, c.list_len-len.ensures)

pub returns : goal.returns
returns c =
    let a = c.args in
    listed-made a.b.now a.out.now (omega (arith, c.if-out-len.false, c.list_len-len.ensures)) c.list_len-len.ensures c.put_list.ensures
