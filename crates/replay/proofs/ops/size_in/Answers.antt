-- `replay::ops::size_in` meets its contract: the index has a place for every four bytes of b.
use mathlib.Core.Path.{sym}
use native.Mathlib.Omega.{arith}
use lib.Seq.{length-take-le}
use Rattle.replay.proofs.Runs.{ran-large, ran-whole}
use Rattle.replay.proofs.ops.size_in.Goals as goal

pub returns-then-given-n : goal.returns-then-given-n
returns-then-given-n c = ran-large _ c.if-given-n.true

pub slice_bounds-size_lent-end-2 : goal.slice_bounds-size_lent-end-2
slice_bounds-size_lent-end-2 c = sym (length-take-le _ _ (omega arith))

pub size_lent-requires : goal.size_lent-requires
size_lent-requires c = length-take-le _ _ (omega (arith, c.if-given-n.false))

pub returns : goal.returns
returns c = ran-whole _ c.if-given-n.false c.size_lent.ensures
