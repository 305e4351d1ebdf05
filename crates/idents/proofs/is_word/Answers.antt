-- `idents::is_word` meets its contract: the tests are the paper's, by computing both at every byte.
use borrow.Author.Rules.{rules}
use Rattle.idents.proofs.Sets.{compared_is}
use Rattle.idents.proofs.is_word.Goals as goal

pub returns : goal.returns
returns c = compared_is c.args.c (search rules)
