-- `quotes::names::name_text` meets its contract.
use Rattle.quotes.proofs.Quotes.{text-by}
use Rattle.quotes.proofs.names.name_text.Goals as goal

pub returns : goal.returns
returns c = text-by c.is_identifier.ensures c.text.ensures
