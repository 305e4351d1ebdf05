-- `groups::asked::pick` meets its contract: the length, the opening, the header, the parts, then the part itself.
use mathlib.Core.Bool.{not}
use mathlib.Core.Path.{ap}
use Rattle.groups.proofs.Picks.{pick_under, pick-over, pick-opening, pick-front, pick-broken, pick-part}
use Rattle.groups.proofs.asked.pick.Goals as goal

pub returns-then-s-lt24 : goal.returns-then-s-lt24
returns-then-s-lt24 c = pick_under c.args.s.now c.args.x c.if-s-lt24.true

pub returns-then-s-gt-BYTE_LIMIT : goal.returns-then-s-gt-BYTE_LIMIT
returns-then-s-gt-BYTE_LIMIT c = pick-over c.args.s.now c.args.x c.if-s-gt-BYTE_LIMIT.true

pub returns-then-not-opens : goal.returns-then-not-opens
returns-then-not-opens c =
    let a = c.args in
    pick-opening a.s.now a.x c.if-s-lt24.false c.if-s-gt-BYTE_LIMIT.false c.opens.ensures (ap not c.if-not-opens.true)

pub returns-then-not-parts_whole : goal.returns-then-not-parts_whole
returns-then-not-parts_whole c =
    let a = c.args in
    pick-broken a.s.now a.x c.if-s-lt24.false c.if-s-gt-BYTE_LIMIT.false c.opens.ensures (ap not c.if-not-opens.false) c.in-Ok.ensures c.parts_whole.ensures (ap not c.if-not-parts_whole.true)

pub returns-in_default : goal.returns-in_default
returns-in_default c =
    let a = c.args in
    pick-front a.s.now a.x c.if-s-lt24.false c.if-s-gt-BYTE_LIMIT.false c.opens.ensures (ap not c.if-not-opens.false) c.in_default.ensures

pub returns : goal.returns
returns c =
    let a = c.args in
    pick-part a.s.now a.x c.if-s-lt24.false c.if-s-gt-BYTE_LIMIT.false c.opens.ensures (ap not c.if-not-opens.false) c.in-Ok.ensures c.parts_whole.ensures (ap not c.if-not-parts_whole.false)
    c.part_at.ensures
