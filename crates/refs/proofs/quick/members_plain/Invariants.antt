use Prim.Native.Nat.{◌+◌, ◌*◌}
use Rattle.paper.specs.rules.Kind.{row_of}
use Rattle.paper.specs.rules.KindNo.{STRUCT}
use Rattle.paper.specs.rules.References.{ref_word_ok}
use Rattle.paper.specs.rules.Table.{vlen_in}
use Rattle.rows.proofs.ByRole.{Entering}
use Rattle.views.specs.Shown.{table_by}
use Rattle.refs.proofs.quick.members_plain.Given as goal

abbrev pub invariant-loop-i : goal.invariant-loop-i
invariant-loop-i l = Entering l.view.order (ref_word_ok (table_by l.base l.b l.index l.view)) l.bytes (row_of STRUCT).each 12 (vlen_in l.info) (12 + 12 * l.i) l.i
