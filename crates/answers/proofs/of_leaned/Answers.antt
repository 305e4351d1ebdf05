-- `answers::of_leaned` meets its contract: each answer is its number, with the count or the report inside.
use Rattle.std.specs.Prelude.{Err}
use Rattle.paper.specs.declared.LeanError.{LeanError}
use mathlib.Core.Path.{sym, ap, ◌∙◌}
use Rattle.paper.specs.rules.Answer.{inside, leaned_as_paper}
use Rattle.answers.proofs.of_leaned.Goals as goal

pub returns-in-Ok : goal.returns-in-Ok
unfolding leaned_as_paper
returns-in-Ok c = c.told.ensures ∙ sym (ap leaned_as_paper c.in-Ok.is)

pub returns-in-Err-BaseRefused : goal.returns-in-Err-BaseRefused
unfolding leaned_as_paper
returns-in-Err-BaseRefused c = c.within.ensures ∙ ap (inside 25) c.of_report.ensures ∙ sym (ap leaned_as_paper (c.in-Err-BaseRefused.is ∙ ap (λ (x : LeanError). Err x) (rw c.in-Err-BaseRefused.is at c.in-Err-BaseRefused.field-0-is)))

pub returns-in-Err-OrdersDiffer : goal.returns-in-Err-OrdersDiffer
unfolding leaned_as_paper
returns-in-Err-OrdersDiffer c = c.told-in-Err-OrdersDiffer.ensures ∙ sym (ap leaned_as_paper (c.in-Err-OrdersDiffer.is ∙ ap (λ (x : LeanError). Err x) (rw c.in-Err-OrdersDiffer.is at c.in-Err-OrdersDiffer.field-0-is)))

pub returns-in-Err-Refused : goal.returns-in-Err-Refused
unfolding leaned_as_paper
returns-in-Err-Refused c = c.of_report-in-Err-Refused.ensures ∙ sym (ap leaned_as_paper (c.in-Err-Refused.is ∙ ap (λ (x : LeanError). Err x) (rw c.in-Err-Refused.is at c.in-Err-Refused.field-0-is)))
