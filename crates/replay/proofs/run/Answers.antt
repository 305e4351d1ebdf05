-- `replay::run` is safe: each part is within its buffer.
use mathlib.Core.Path.{sym}
use native.Mathlib.Omega.{arith}
use lib.Seq.{length-take-le}
use Rattle.replay.proofs.run.Goals as goal

pub slice_bounds-read_whole-end-2 : goal.slice_bounds-read_whole-end-2
slice_bounds-read_whole-end-2 c = sym (length-take-le _ _ (omega arith))

pub slice_bounds-read_whole-end-4 : goal.slice_bounds-read_whole-end-4
slice_bounds-read_whole-end-4 c = sym (length-take-le _ _ (omega arith))

pub slice_bounds-run-end-2 : goal.slice_bounds-run-end-2
slice_bounds-run-end-2 c = sym (length-take-le _ _ (omega arith))

pub slice_bounds-run-end-4 : goal.slice_bounds-run-end-4
slice_bounds-run-end-4 c = sym (length-take-le _ _ (omega arith))
