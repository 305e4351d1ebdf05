-- `recall::telling::size_behind` meets its contract.
use mathlib.Core.Path.{sym, ap, ◌∙◌}
use Rattle.paper.specs.rules.Size.{answer_of}
use Rattle.recall.specs.Recall.{size_behind}
use Rattle.sizes.specs.SizeStep.{step_as_paper}
use Rattle.sizes.specs.declared.Step.{Step}
use Rattle.recall.proofs.Tellings.{none_said, word-exact}
use Rattle.recall.proofs.telling.size_behind.Goals as goal

pub returns-in-Is : goal.returns-in-Is
returns-in-Is c = word-exact _ c.in-Is.known_told-1-own.given.0.1 ∙ sym (ap (λ (s : Step). answer_of (size_behind (step_as_paper s) c.args.code)) c.in-Is.is)

pub returns-in-ManyOf : goal.returns-in-ManyOf
returns-in-ManyOf c = c.many_told.ensures ∙ sym (ap (λ (s : Step). answer_of (size_behind (step_as_paper s) c.args.code)) c.in-ManyOf.is)

pub returns-in-Sizeless : goal.returns-in-Sizeless
returns-in-Sizeless c = none_said ∙ sym (ap (λ (s : Step). answer_of (size_behind (step_as_paper s) c.args.code)) c.in-Sizeless.is)

pub returns-in-Lost : goal.returns-in-Lost
returns-in-Lost c = none_said ∙ sym (ap (λ (s : Step). answer_of (size_behind (step_as_paper s) c.args.code)) c.in-Lost.is)
