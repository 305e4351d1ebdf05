use Prim.Native.Nat.{◌≤◌}
use Rattle.replay.specs.Count.{ran}
use Rattle.replay.proofs.replay.Given as goal

abbrev pub invariant-loop-done : goal.invariant-loop-done
invariant-loop-done l = ran l.tally ≤ l.done
