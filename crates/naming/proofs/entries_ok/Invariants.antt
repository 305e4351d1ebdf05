use Prim.Native.Nat.{◌+◌, ◌*◌}
use Rattle.paper.specs.rules.Kind.{row_of}
use Rattle.pairs.specs.Lean.{name_word_over}
use Rattle.rows.proofs.ByRole.{Entering}
use Rattle.naming.proofs.entries_ok.Given as goal

abbrev pub invariant-loop-i : goal.invariant-loop-i
invariant-loop-i l = Entering l.order (name_word_over l.base l.strings) l.bytes (row_of l.kind).each l.at.0 l.n (l.at.0 + l.step * l.i) l.i
