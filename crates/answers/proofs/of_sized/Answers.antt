-- `answers::of_sized` meets its contract: each answer is its number, with the size.
use mathlib.Core.Path.{sym, ap, ◌∙◌}
use Rattle.paper.specs.rules.Answer.{sized_as_paper}
use Rattle.answers.proofs.of_sized.Goals as goal

pub returns-in-Exact : goal.returns-in-Exact
unfolding sized_as_paper
returns-in-Exact c = c.valued.ensures ∙ sym (ap sized_as_paper c.in-Exact.is)

pub returns-in-NoSize : goal.returns-in-NoSize
unfolding sized_as_paper
returns-in-NoSize c = c.told.ensures ∙ sym (ap sized_as_paper c.in-NoSize.is)

pub returns-in-Overflow : goal.returns-in-Overflow
unfolding sized_as_paper
returns-in-Overflow c = c.told-in-Overflow.ensures ∙ sym (ap sized_as_paper c.in-Overflow.is)

pub returns-in-Lost : goal.returns-in-Lost
unfolding sized_as_paper
returns-in-Lost c = c.told-in-Lost.ensures ∙ sym (ap sized_as_paper c.in-Lost.is)

pub returns-in-TooFar : goal.returns-in-TooFar
unfolding sized_as_paper
returns-in-TooFar c = c.told-in-TooFar.ensures ∙ sym (ap sized_as_paper c.in-TooFar.is)
