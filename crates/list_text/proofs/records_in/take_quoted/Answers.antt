-- `list_text::records_in::take_quoted` is safe and ends.
use Rattle.std.proofs.Common.{sym, arith, length-take-le}
use Rattle.list_text.proofs.records_in.take_quoted.Goals as goal

pub slice_bounds-found-end : goal.slice_bounds-found-end
slice_bounds-found-end c = sym (length-take-le _ _ (omega arith))
