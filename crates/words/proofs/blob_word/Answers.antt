-- `words::blob_word` meets its contract.
use mathlib.Core.Path.{ap, ◌∙◌}
use Rattle.paper.specs.declared.Order.{Order}
use Rattle.paper.specs.rules.Word.{word_at}
use Rattle.words.proofs.blob_word.Goals as goal

pub returns : goal.returns
returns c =
    let a = c.args in
    c.read.ensures ∙ ap (λ (o : Order). word_at o a.b.now a.at.0) c.order_of.ensures
