-- `views::word_from` meets its contract.
use Rattle.views.proofs.Shows.{word-past, word-part}
use Rattle.views.proofs.word_from.Goals as goal

pub returns-then-s-from : goal.returns-then-s-from
returns-then-s-from c = word-past _ _ _ _ c.if-s-from.true

pub returns : goal.returns
returns c =
    let a = c.args in
    word-part a.order a.s.now a.from a.at.0 c.read.ensures
