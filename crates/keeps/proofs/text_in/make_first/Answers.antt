-- `keeps::text_in::make_first` is safe and ends.
use Rattle.std.proofs.Common.{sym, arith, length-take-le}
use Rattle.keeps.proofs.text_in.make_first.Goals as goal

pub slice_bounds-make_of-end-2 : goal.slice_bounds-make_of-end-2
slice_bounds-make_of-end-2 c = sym (length-take-le _ _ (omega arith))
