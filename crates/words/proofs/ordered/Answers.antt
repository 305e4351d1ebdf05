-- `words::ordered` meets its contract, by order.
use mathlib.Core.Path.{sym, ap, ◌∙◌}
use mathlib.Core.List.{[]}
use native.Mathlib.Omega.{arith}
use Rattle.paper.specs.declared.Order.{Order}
use Rattle.paper.specs.declared.Order.TheVariants.{LowFirst}
use Rattle.paper.specs.rules.Word.{first_word, word_bytes}
use Rattle.paper.proofs.bytes.Words.{first_word-word_bytes}
use Rattle.words.proofs.ordered.Goals as goal

pub returns-in-LowFirst : goal.returns-in-LowFirst
returns-in-LowFirst c =
    let w = c.args.w in
    sym (first_word-word_bytes LowFirst w [] (omega arith)) ∙ ap (λ (o : Order). first_word o (word_bytes LowFirst w)) (sym c.in-LowFirst.is)

pub returns-in-HighFirst : goal.returns-in-HighFirst
returns-in-HighFirst c =
    let w = c.args.w in
    c.turn.ensures ∙ ap (λ (o : Order). first_word o (word_bytes LowFirst w)) (sym c.in-HighFirst.is)
