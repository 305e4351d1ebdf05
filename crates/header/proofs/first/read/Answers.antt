-- `header::first::read` meets its contract: no bytes before the blob, and strings that must be there.
use Rattle.header.proofs.Behinds.{header-alone}
use Rattle.header.proofs.first.read.Goals as goal

pub returns : goal.returns
returns c = header-alone c.read_by.result _ c.read_by.ensures c.length_bad.ensures c.strings_bad.ensures
