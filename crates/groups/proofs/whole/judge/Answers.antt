-- `groups::whole::judge` meets its contract: 41 to 44 in their order, then the parts.
use mathlib.Core.Bool.{not}
use mathlib.Core.Path.{ap}
use mathlib.Core.List.{[]}
use lib.ListN.{take}
use Rattle.paper.proofs.basics.Exits.{exit-same}
use Rattle.groups.proofs.Wholes.{section-under, section-over, section-opening, section-front, section-items}
use Rattle.views.specs.Shown.{table_by}
use Rattle.groups.proofs.whole.judge.Goals as goal

pub returns-then-s-lt24 : goal.returns-then-s-lt24
returns-then-s-lt24 c =
    let a = c.args in
    section-under (take 4 a.b.now) (table_by [] a.b.now a.index.now a.view) a.s.now c.if-s-lt24.true

pub returns-then-s-gt-BYTE_LIMIT : goal.returns-then-s-gt-BYTE_LIMIT
returns-then-s-gt-BYTE_LIMIT c =
    let a = c.args in
    section-over (take 4 a.b.now) (table_by [] a.b.now a.index.now a.view) a.s.now c.if-s-gt-BYTE_LIMIT.true

pub returns-then-not-opens_as : goal.returns-then-not-opens_as
returns-then-not-opens_as c =
    let a = c.args in
    section-opening (take 4 a.b.now) (table_by [] a.b.now a.index.now a.view) a.s.now c.if-s-lt24.false c.if-s-gt-BYTE_LIMIT.false c.opens_as.ensures (ap not c.if-not-opens_as.true)

pub returns-in_err-front : goal.returns-in_err-front
returns-in_err-front c =
    let a = c.args in
    rw (exit-same c.from_residual.result c.from_residual.ensures.1)
    (section-front (take 4 a.b.now) (table_by [] a.b.now a.index.now a.view) a.s.now c.if-s-lt24.false c.if-s-gt-BYTE_LIMIT.false c.opens_as.ensures (ap not c.if-not-opens_as.false) _ c.in_err-front.ensures)

pub returns : goal.returns
returns c =
    let a = c.args in
    section-items (take 4 a.b.now) (table_by [] a.b.now a.index.now a.view) a.s.now c.if-s-lt24.false c.if-s-gt-BYTE_LIMIT.false c.opens_as.ensures (ap not c.if-not-opens_as.false) c.in_ok-front.ensures
    c.judge_parts.ensures
