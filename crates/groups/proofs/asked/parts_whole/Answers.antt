-- `groups::asked::parts_whole` meets its contract: each of the three.
use Rattle.groups.proofs.Picks.{parts-whole-is}
use Rattle.groups.proofs.asked.parts_whole.Goals as goal

pub returns : goal.returns
returns c =
    let f = c.args.front in
    parts-whole-is c.args.s.now f.functions f.lines f.relocations f.end c.part_whole.ensures c.part_whole-2.ensures c.part_whole-3.ensures
