use Prim.Native.Nat.{◌+◌, ◌*◌}
use Rattle.list.proofs.Gathering.{Gathering}
use Rattle.list.proofs.bodies.gather_body.Given as goal

abbrev pub invariant-loop-k : goal.invariant-loop-k
invariant-loop-k l = Gathering l.s l.at l.len l.initial.out l.to l.out (65535 * l.k) (l.at + 65538 * l.k)
