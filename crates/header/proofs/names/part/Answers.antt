-- `header::names::part` meets its contract: where there is a name, phase 1 holds it.
use Rattle.header.proofs.Scans.{alone-held, held-told, part_if-told, part-alone}
use Rattle.header.proofs.names.part.Goals as goal

pub part_if-requires : goal.part_if-requires
part_if-requires c = held-told _ _ c.nameless.ensures (alone-held _ _)

pub returns : goal.returns
returns c = part-alone _ _ (part_if-told _ _ c.nameless.ensures c.part_if.ensures)
