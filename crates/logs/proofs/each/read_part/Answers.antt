-- `logs::each::read_part` is safe and ends.
use Rattle.std.proofs.Common.{sym, arith, length-take-le}
use Rattle.logs.proofs.each.read_part.Goals as goal

pub slice_bounds-read_input-end-2 : goal.slice_bounds-read_input-end-2
slice_bounds-read_input-end-2 c = sym (length-take-le _ _ (omega arith))
