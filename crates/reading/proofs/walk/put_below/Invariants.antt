-- `reading::walk::put_below` is safe and ends.
use Prim.Native.Nat.{◌+◌, ◌≤◌}
use Rattle.reading.proofs.walk.put_below.Given as goal

abbrev pub invariant-loop-depth : goal.invariant-loop-depth
invariant-loop-depth l = l.depth ≤ 8

abbrev pub decreases-loop-depth : goal.decreases-loop-depth
decreases-loop-depth l = l.left + l.left + l.depth
