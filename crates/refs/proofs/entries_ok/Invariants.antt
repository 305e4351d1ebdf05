use Prim.Native.Nat.{◌+◌, ◌*◌}
use Rattle.paper.specs.rules.Kind.{row_of}
use Rattle.paper.specs.rules.References.{ref_word_ok}
use Rattle.views.specs.Shown.{table_by}
use Rattle.rows.proofs.ByRole.{Entering}
use Rattle.refs.proofs.entries_ok.Given as goal

abbrev pub invariant-loop-i : goal.invariant-loop-i
invariant-loop-i l = Entering l.view.order (ref_word_ok (table_by l.base l.b l.index l.view)) l.bytes (row_of l.kind).each l.at.0 l.v (l.at.0 + l.step * l.i) l.i
