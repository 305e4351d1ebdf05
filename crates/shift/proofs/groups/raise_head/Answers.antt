-- `shift::groups::raise_head` meets its contract: a word behind the other, by the columns of the kind's row.
use Rattle.shift.proofs.RaisedWords.{head-put}
use Rattle.shift.proofs.groups.raise_head.Goals as goal

pub returns : goal.returns
returns c =
    head-put c.requires c.name_role.ensures c.third_role.ensures
    c.raise_word.ensures c.raise_word-2.ensures c.raise_word-3.ensures
