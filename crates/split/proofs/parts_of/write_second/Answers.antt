-- `split::parts_of::write_second` meets its contract: the piece behind the cut, raised by what lowers it.
use native.Mathlib.Omega.{arith}
use Rattle.split.proofs.Pieces.{widths}
use Rattle.split.proofs.TwoParts.{second-ask, second-written}
use Rattle.split.proofs.parts_of.write_second.Goals as goal

pub overflow_add-end : goal.overflow_add-end
overflow_add-end c =
    let l = widths c.requires.0 in
    omega (arith, l.sum, l.short, c.blob_word-end.ensures)

pub overflow_sub-section : goal.overflow_sub-section
overflow_sub-section c =
    let l = widths c.requires.0 in
    omega (arith, l.types, c.requires.0.there, c.blob_word-end.ensures)

pub overflow_sub-less : goal.overflow_sub-less
overflow_sub-less c = (widths c.requires.0).filled

pub overflow_sub-left : goal.overflow_sub-left
overflow_sub-left c =
    let l = widths c.requires.0 in
    omega (arith, l.sum, l.ends, l.filled, c.blob_word-end.ensures)

pub overflow_cast-piece-2 : goal.overflow_cast-piece-2
overflow_cast-piece-2 c =
    let l = widths c.requires.0 in
    omega (arith, l.short)

pub write_part-requires : goal.write_part-requires
write_part-requires c = second-ask c.requires.0 c.blob_word-end.ensures _ c.requires.1 c.requires.2

pub returns : goal.returns
returns c =
    second-written c.requires.0 c.blob_word-end.ensures _ c.requires.1 _ c.order_of-order.ensures c.negated.ensures c.negated-2.ensures
    c.write_part.ensures
