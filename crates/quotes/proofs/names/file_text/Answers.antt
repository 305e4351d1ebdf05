-- `quotes::names::file_text` meets its contract.
use Rattle.quotes.proofs.Quotes.{text-by}
use Rattle.quotes.proofs.names.file_text.Goals as goal

pub returns : goal.returns
returns c = text-by c.is_path.ensures c.text.ensures
