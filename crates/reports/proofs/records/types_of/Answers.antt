-- `reports::records::types_of` is safe and ends.
use Rattle.std.proofs.Common.{sym, arith, length-take-le}
use Rattle.reports.proofs.records.types_of.Goals as goal

pub slice_bounds-result-end-2 : goal.slice_bounds-result-end-2
slice_bounds-result-end-2 c = sym (length-take-le _ _ (omega arith))
