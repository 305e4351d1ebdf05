use Prim.Native.Nat.{◌-◌}
use lib.ListN.{length}
use Rattle.values.proofs.ReadBytes.{FewInv}
use Rattle.values.proofs.numbers.few.Given as goal

abbrev pub invariant-loop-c : goal.invariant-loop-c
invariant-loop-c l = FewInv l.s l.n (length l.s - length l.yielded)
