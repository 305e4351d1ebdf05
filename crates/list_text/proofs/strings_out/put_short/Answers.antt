-- `list_text::strings_out::put_short` is safe and ends.
use Rattle.std.proofs.Common.{sym, arith, length-take-le}
use Rattle.list_text.proofs.strings_out.put_short.Goals as goal

pub slice_bounds-put-end : goal.slice_bounds-put-end
slice_bounds-put-end c = sym (length-take-le _ _ (omega arith))
