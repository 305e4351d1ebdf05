-- `answers::of_joined` meets its contract: each answer is its number, with the length or the report inside.
use Rattle.std.specs.Prelude.{Err}
use Rattle.paper.specs.declared.JoinError.{JoinError}
use mathlib.Core.Path.{sym, ap, ◌∙◌}
use Rattle.paper.specs.rules.Answer.{inside, joined_as_paper}
use Rattle.answers.proofs.of_joined.Goals as goal

pub returns-in-Ok : goal.returns-in-Ok
unfolding joined_as_paper
returns-in-Ok c = c.valued.ensures ∙ sym (ap joined_as_paper c.in-Ok.is)

pub returns-in-Err-FirstRefused : goal.returns-in-Err-FirstRefused
unfolding joined_as_paper
returns-in-Err-FirstRefused c = c.within.ensures ∙ ap (inside 16) c.of_report.ensures ∙ sym (ap joined_as_paper (c.in-Err-FirstRefused.is ∙ ap (λ (x : JoinError). Err x) (rw c.in-Err-FirstRefused.is at c.in-Err-FirstRefused.field-0-is)))

pub returns-in-Err-SecondRefused : goal.returns-in-Err-SecondRefused
unfolding joined_as_paper
returns-in-Err-SecondRefused c = c.within-in-Err-SecondRefused.ensures ∙ ap (inside 17) c.of_report-in-Err-SecondRefused.ensures ∙ sym (ap joined_as_paper (c.in-Err-SecondRefused.is ∙ ap (λ (x : JoinError). Err x) (rw c.in-Err-SecondRefused.is at c.in-Err-SecondRefused.field-0-is)))

pub returns-in-Err-OrdersDiffer : goal.returns-in-Err-OrdersDiffer
unfolding joined_as_paper
returns-in-Err-OrdersDiffer c = c.told.ensures ∙ sym (ap joined_as_paper (c.in-Err-OrdersDiffer.is ∙ ap (λ (x : JoinError). Err x) (rw c.in-Err-OrdersDiffer.is at c.in-Err-OrdersDiffer.field-0-is)))

pub returns-in-Err-TooMany : goal.returns-in-Err-TooMany
unfolding joined_as_paper
returns-in-Err-TooMany c = c.told-in-Err-TooMany.ensures ∙ sym (ap joined_as_paper (c.in-Err-TooMany.is ∙ ap (λ (x : JoinError). Err x) (rw c.in-Err-TooMany.is at c.in-Err-TooMany.field-0-is)))

pub returns-in-Err-TooLong : goal.returns-in-Err-TooLong
unfolding joined_as_paper
returns-in-Err-TooLong c = c.told-in-Err-TooLong.ensures ∙ sym (ap joined_as_paper (c.in-Err-TooLong.is ∙ ap (λ (x : JoinError). Err x) (rw c.in-Err-TooLong.is at c.in-Err-TooLong.field-0-is)))

pub returns-in-Err-OutputShort : goal.returns-in-Err-OutputShort
unfolding joined_as_paper
returns-in-Err-OutputShort c = c.told-in-Err-OutputShort.ensures ∙ sym (ap joined_as_paper (c.in-Err-OutputShort.is ∙ ap (λ (x : JoinError). Err x) (rw c.in-Err-OutputShort.is at c.in-Err-OutputShort.field-0-is)))
