-- `answers::of_checked` meets its contract: the count, or the report.
use mathlib.Core.Path.{sym, ap, ◌∙◌}
use Rattle.paper.specs.rules.Answer.{checked_as_paper}
use Rattle.answers.proofs.of_checked.Goals as goal

pub returns-in-Ok : goal.returns-in-Ok
unfolding checked_as_paper
returns-in-Ok c = c.told.ensures ∙ sym (ap checked_as_paper c.in-Ok.is)

pub returns-in-Err : goal.returns-in-Err
unfolding checked_as_paper
returns-in-Err c = c.of_report.ensures ∙ sym (ap checked_as_paper c.in-Err.is)
