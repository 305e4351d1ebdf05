-- `answers::of_wrote` meets its contract: each answer is its number, with the length or the report inside.
use Rattle.std.specs.Prelude.{Err}
use Rattle.lists.specs.declared.WriteError.{WriteError}
use mathlib.Core.Path.{sym, ap, ◌∙◌}
use Rattle.lists.specs.Kept.{wrote_as_paper}
use Rattle.paper.specs.rules.Answer.{inside}
use Rattle.answers.proofs.of_wrote.Goals as goal

pub returns-in-Ok : goal.returns-in-Ok
unfolding wrote_as_paper
returns-in-Ok c = c.valued.ensures ∙ sym (ap wrote_as_paper c.in-Ok.is)

pub returns-in-Err-OutputShort : goal.returns-in-Err-OutputShort
unfolding wrote_as_paper
returns-in-Err-OutputShort c = c.told.ensures ∙ sym (ap wrote_as_paper (c.in-Err-OutputShort.is ∙ ap (λ (x : WriteError). Err x) (rw c.in-Err-OutputShort.is at c.in-Err-OutputShort.field-0-is)))

pub returns-in-Err-Refused : goal.returns-in-Err-Refused
unfolding wrote_as_paper
returns-in-Err-Refused c = c.within.ensures ∙ ap (inside 54) c.of_report.ensures ∙ sym (ap wrote_as_paper (c.in-Err-Refused.is ∙ ap (λ (x : WriteError). Err x) (rw c.in-Err-Refused.is at c.in-Err-Refused.field-0-is)))
