use Prim.Native.Nat.{◌-◌}
use lib.ListN.{length}
use Rattle.list.proofs.Makings.{Making}
use Rattle.list.proofs.making.put_table.Given as goal

abbrev pub invariant-loop-p : goal.invariant-loop-p
invariant-loop-p l = Making l.s l.order l.types l.strings l.out l.p l.q

abbrev pub decreases-loop-p : goal.decreases-loop-p
decreases-loop-p l = length l.s - l.p
