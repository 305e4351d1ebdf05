use Prim.Native.Nat.{◌-◌}
use Rattle.scan.specs.Phase2.{walk_finds}
use Rattle.scan.proofs.Progress.{Standing}
use Rattle.scan.proofs.walk.walk.Given as goal

abbrev pub invariant-loop-at : goal.invariant-loop-at
invariant-loop-at l = Standing (walk_finds l.first l.b) l.b l.end l.count l.at

abbrev pub decreases-loop-at : goal.decreases-loop-at
decreases-loop-at l = l.end - l.at
