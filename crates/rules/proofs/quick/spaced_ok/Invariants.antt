use Prim.Native.Nat.{◌*◌}
use Rattle.paper.specs.rules.Kind.{row_of}
use Rattle.paper.specs.rules.KindNo.{STRUCT}
use Rattle.pairs.specs.Lean.{name_word_over}
use Rattle.rows.proofs.ByRole.{Entering}
use Rattle.rules.proofs.quick.spaced_ok.Given as goal

abbrev pub invariant-loop-i : goal.invariant-loop-i
invariant-loop-i l = Entering l.order (name_word_over l.base l.strings) l.bytes (row_of STRUCT).each 0 l.n (12 * l.i) l.i
