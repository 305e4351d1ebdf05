use Prim.Native.Nat.{◌+◌, ◌*◌}
use Rattle.cuts.specs.Sides.{keeps_to}
use Rattle.paper.specs.rules.Kind.{row_of}
use Rattle.rows.proofs.ByRole.{Entering}
use Rattle.cuts.proofs.records.entries_keep.Given as goal

abbrev pub invariant-loop-i : goal.invariant-loop-i
invariant-loop-i l = Entering l.order (keeps_to l.cut) l.bytes (row_of l.kind).each l.at.0 l.n (l.at.0 + l.step * l.i) l.i
