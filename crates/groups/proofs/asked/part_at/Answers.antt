-- `groups::asked::part_at` meets its contract: the first, the second, the third, or none.
use mathlib.Core.Path.{sym, ap}
use Rattle.exts.specs.Entries.{part_at}
use Rattle.groups.proofs.Picks.{part_none}
use Rattle.groups.specs.Fronts.{three_parts}
use Rattle.groups.proofs.asked.part_at.Goals as goal

pub returns-in-1 : goal.returns-in-1
returns-in-1 c =
    let f = c.args.front in
    sym (ap (part_at (three_parts f.functions f.lines f.relocations f.end)) c.in-1.is)

pub returns-in-2 : goal.returns-in-2
returns-in-2 c =
    let f = c.args.front in
    sym (ap (part_at (three_parts f.functions f.lines f.relocations f.end)) c.in-2.is)

pub returns-in-3 : goal.returns-in-3
returns-in-3 c =
    let f = c.args.front in
    sym (ap (part_at (three_parts f.functions f.lines f.relocations f.end)) c.in-3.is)

pub returns-in_default : goal.returns-in_default
returns-in_default c =
    let f = c.args.front in
    part_none f.functions f.lines f.relocations f.end c.args.x c.in_default.in_default-own.rest.0.0.1 c.in_default.in_default-own.rest.0.1 c.in_default.in_default-own.rest.1
