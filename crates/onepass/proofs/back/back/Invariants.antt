use Prim.Native.Nat.{◌-◌}
use lib.ListN.{length}
use Rattle.onepass.proofs.Backing.{Backing}
use Rattle.paper.specs.rules.Walk.{table_of}
use Rattle.onepass.proofs.back.back.Given as goal

abbrev pub invariant-loop-k : goal.invariant-loop-k
invariant-loop-k l = Backing (table_of l.b) (length l.initial.work) (l.n - l.k) l.work
