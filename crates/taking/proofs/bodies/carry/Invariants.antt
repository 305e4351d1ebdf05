use Prim.Native.Nat.{◌-◌}
use lib.ListN.{length}
use Rattle.taking.proofs.Carrying.{Carrying}
use Rattle.taking.proofs.bodies.carry.Given as goal

abbrev pub invariant-loop-last : goal.invariant-loop-last
invariant-loop-last l = Carrying l.s l.tag l.first l.last l.len l.end

abbrev pub decreases-loop-last : goal.decreases-loop-last
decreases-loop-last l = length l.s - l.end
