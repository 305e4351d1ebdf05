use Prim.Native.Nat.{◌-◌}
use lib.ListN.{length}
use Rattle.onepass.proofs.Passing.{Passing}
use Rattle.onepass.proofs.forth.forth.Given as goal

abbrev pub invariant-loop-at : goal.invariant-loop-at
invariant-loop-at l = Passing l.b l.initial.index (length l.initial.work) l.most l.end l.k l.at l.unsettled l.index l.work

abbrev pub decreases-loop-at : goal.decreases-loop-at
decreases-loop-at l = l.end - l.at
