-- `idents::is_among` meets its contract: the code is the definition.
use Rattle.idents.specs.Spelling.{among}
use borrow.Author.Rules.{rules}
use Rattle.idents.proofs.is_among.Goals as goal

pub returns : goal.returns
unfolding among
returns c = search rules
