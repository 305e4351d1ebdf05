-- `quotes::names::is_path` meets its contract: there are bytes, and every one is of a file's name.
use Rattle.quotes.proofs.Bare.{path_empty, path-by}
use Rattle.quotes.proofs.names.is_path.Goals as goal

pub returns-then-s-eq0 : goal.returns-then-s-eq0
returns-then-s-eq0 c = path_empty _ c.if-s-eq0.true

pub returns : goal.returns
returns c = path-by _ c.if-s-eq0.false c.are_path_bytes.ensures
