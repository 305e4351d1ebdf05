-- `cuts::records::keeps` meets its contract: the head, then the tail.
use mathlib.Core.Bool.{not}
use mathlib.Core.Path.{ap}
use Rattle.cuts.specs.Sides.{keeps_to}
use Rattle.rows.proofs.ByRole.{record-head, record-tail}
use Rattle.cuts.proofs.records.keeps.Goals as goal

pub returns-then-not-three_keep : goal.returns-then-not-three_keep
returns-then-not-three_keep c =
    let a = c.args in
    record-head a.order (keeps_to a.cut) a.bytes.now c.read-info.ensures c.kind_of-kind.ensures c.name_role.ensures
    c.third_role.ensures c.three_keep.ensures (ap not c.if-not-three_keep.true)

pub returns : goal.returns
returns c =
    let a = c.args in
    record-tail a.order (keeps_to a.cut) a.bytes.now c.read-info.ensures c.kind_of-kind.ensures c.name_role.ensures
    c.third_role.ensures c.three_keep.ensures (ap not c.if-not-three_keep.false) c.tail_keeps.ensures
