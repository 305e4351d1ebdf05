-- `cuts::records::three_keep` meets its contract: the first that fails decides.
use mathlib.Core.Bool.{not}
use mathlib.Core.Path.{ap, ◌∙◌}
use Rattle.cuts.specs.Sides.{keeps_to}
use Rattle.kindrows.specs.Codes.{role_of}
use Rattle.rows.proofs.ByRole.{three-first, three-second, three_third}
use Rattle.cuts.proofs.records.three_keep.Goals as goal

pub returns-then-not-points_well : goal.returns-then-not-points_well
returns-then-not-points_well c =
    let a = c.args in
    let f = keeps_to a.cut in
    three-first a.order f a.bytes.now a.at.0 (role_of a.r0) (role_of a.r1) (role_of a.r2)
    (c.points_well.ensures ∙ ap (f (role_of a.r0)) c.read.ensures) (ap not c.if-not-points_well.true)

pub returns-then-not-points_well-2 : goal.returns-then-not-points_well-2
returns-then-not-points_well-2 c =
    let a = c.args in
    let f = keeps_to a.cut in
    three-second a.order f a.bytes.now a.at.0 (role_of a.r0) (role_of a.r1) (role_of a.r2)
    (c.points_well.ensures ∙ ap (f (role_of a.r0)) c.read.ensures) (ap not c.if-not-points_well.false)
    (c.points_well-2.ensures ∙ ap (f (role_of a.r1)) c.read-2.ensures) (ap not c.if-not-points_well-2.true)

pub returns : goal.returns
returns c =
    let a = c.args in
    let f = keeps_to a.cut in
    three_third a.order f a.bytes.now a.at.0 (role_of a.r0) (role_of a.r1) (role_of a.r2)
    (c.points_well.ensures ∙ ap (f (role_of a.r0)) c.read.ensures) (ap not c.if-not-points_well.false)
    (c.points_well-2.ensures ∙ ap (f (role_of a.r1)) c.read-2.ensures) (ap not c.if-not-points_well-2.false)
    (c.points_well-3.ensures ∙ ap (f (role_of a.r2)) c.read-3.ensures)
