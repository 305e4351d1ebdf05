-- `header::names::part_behind` meets its contract: where there is a name, phase 1 holds it.
use Rattle.header.proofs.Scans.{behind-held, held-told, part_if-told, part-behind}
use Rattle.header.proofs.names.part_behind.Goals as goal

pub part_if-requires : goal.part_if-requires
part_if-requires c = held-told _ _ c.nameless_behind.ensures (behind-held _ _ _)

pub returns : goal.returns
returns c = part-behind _ _ _ (part_if-told _ _ c.nameless_behind.ensures c.part_if.ensures)
