-- `words::read` meets its contract: outside the slice 0, inside the word of the four bytes, from either end.
use mathlib.Core.Path.{sym, ap, ◌∙◌}
use native.Mathlib.Omega.{arith}
use Rattle.paper.specs.declared.Order.{Order}
use Rattle.paper.specs.declared.Order.TheVariants.{LowFirst, HighFirst}
use Rattle.paper.specs.rules.Word.{word_at}
use Rattle.paper.proofs.bytes.Words.{word_at-inside, word_at-outside}
use Rattle.words.proofs.Orders.{other-end}
use Rattle.words.proofs.read.Goals as goal

pub returns-then-b-p : goal.returns-then-b-p
returns-then-b-p c = let a = c.args in sym (word_at-outside a.order a.b.now a.at.0 c.if-b-p.true)

pub returns-in-LowFirst : goal.returns-in-LowFirst
returns-in-LowFirst c =
    let a = c.args in
    c.compose.ensures
    ∙ sym (word_at-inside LowFirst a.b.now a.at.0 (omega arith))
    ∙ ap (λ (o : Order). word_at o a.b.now a.at.0) (sym c.in-LowFirst.is)

pub returns-in-HighFirst : goal.returns-in-HighFirst
returns-in-HighFirst c =
    let a = c.args in
    c.compose-in-HighFirst.ensures
    ∙ other-end _ _ _ _
    ∙ sym (word_at-inside HighFirst a.b.now a.at.0 (omega arith))
    ∙ ap (λ (o : Order). word_at o a.b.now a.at.0) (sym c.in-HighFirst.is)
