use Prim.Native.Nat.{◌+◌, ◌*◌}
use Rattle.list.proofs.Fielding.{Fielding}
use Rattle.list.proofs.bodies.put_body.Given as goal

abbrev pub invariant-loop-k : goal.invariant-loop-k
invariant-loop-k l = Fielding l.tag l.body l.initial.out l.at l.out l.t (65535 * l.k) (l.at + 65538 * l.k)
