-- `quotes::names::is_identifier` meets its contract.
use Rattle.quotes.proofs.Bare.{spelt-whole, spelt-none}
use Rattle.quotes.proofs.names.is_identifier.Goals as goal

pub returns-in-Some : goal.returns-in-Some
returns-in-Some c = spelt-whole _ c.in-Some.is c.identifier.ensures

pub returns-in-None : goal.returns-in-None
returns-in-None c = spelt-none _ c.in-None.is c.identifier.ensures
