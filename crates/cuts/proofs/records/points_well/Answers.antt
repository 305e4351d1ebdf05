-- `cuts::records::points_well` meets its contract: a name, a reference, or a plain number, which points nowhere.
use Rattle.cuts.proofs.Roles.{points-name, points-ref, points-other}
use Rattle.cuts.proofs.records.points_well.Goals as goal

pub returns-then-is_name : goal.returns-then-is_name
returns-then-is_name c =
    let a = c.args in
    points-name a.cut.types.0 a.cut.strings.0 a.cut.behind a.role a.w c.is_name.ensures c.if-is_name.true c.on_side.ensures

pub returns-then-is_reference : goal.returns-then-is_reference
returns-then-is_reference c =
    let a = c.args in
    points-ref a.cut.types.0 a.cut.strings.0 a.cut.behind a.role a.w c.is_reference.ensures c.if-is_reference.true c.on_side-then-is_reference.ensures

pub returns : goal.returns
returns c =
    let a = c.args in
    points-other a.cut.types.0 a.cut.strings.0 a.cut.behind a.role a.w c.is_name.ensures c.if-is_name.false c.is_reference.ensures
    c.if-is_reference.false
