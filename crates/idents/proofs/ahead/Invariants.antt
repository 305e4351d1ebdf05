use Prim.Native.Nat.{◌+◌, ◌*◌}
use Rattle.idents.specs.Spelling.{Passing, identifier_byte}
use Rattle.idents.proofs.ahead.Given as goal

abbrev pub invariant-loop-k : goal.invariant-loop-k
invariant-loop-k l = Passing identifier_byte l.s l.from (l.from + 16 * l.k)
