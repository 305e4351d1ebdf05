-- `header::first::read_behind` meets its contract: the bytes of the base count, and strings that may be empty.
use Rattle.header.proofs.Behinds.{header-behind}
use Rattle.header.proofs.first.read_behind.Goals as goal

pub returns : goal.returns
returns c = header-behind c.read_by.result _ c.read_by.ensures _ c.length_bad.ensures c.end_bad.ensures
