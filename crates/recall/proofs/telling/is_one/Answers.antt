-- `recall::telling::is_one` meets its contract.
use mathlib.Core.Path.{sym, ap}
use Rattle.recall.specs.Recall.{is_one}
use Rattle.sizes.specs.SizeStep.{step_as_paper}
use Rattle.sizes.specs.declared.Step.{Step}
use Rattle.recall.proofs.telling.is_one.Goals as goal

pub returns-in-ManyOf : goal.returns-in-ManyOf
returns-in-ManyOf c = sym (ap (λ (s : Step). is_one (step_as_paper s)) c.in-ManyOf.is)
