-- `answers::of_made` meets its contract: each answer is its number, with the length or the report inside.
use Rattle.std.specs.Prelude.{Err}
use Rattle.lists.specs.declared.MakeError.{MakeError}
use Prim.Native.Nat.{ℕ}
use mathlib.Core.Path.{sym, ap, ◌∙◌}
use Rattle.lists.specs.Kept.{made_as_paper}
use Rattle.paper.specs.rules.Answer.{inside, report}
use Rattle.answers.proofs.of_made.Goals as goal

pub returns-in-Ok : goal.returns-in-Ok
unfolding made_as_paper
returns-in-Ok c = c.valued.ensures ∙ sym (ap made_as_paper c.in-Ok.is)

pub returns-in-Err-Unread : goal.returns-in-Err-Unread
unfolding made_as_paper
returns-in-Err-Unread c = c.told.ensures ∙ ap (λ (n : ℕ). report n 0) c.number_of.ensures ∙ sym (ap made_as_paper (c.in-Err-Unread.is ∙ ap (λ (x : MakeError). Err x) (rw c.in-Err-Unread.is at c.in-Err-Unread.field-0-is)))

pub returns-in-Err-Short : goal.returns-in-Err-Short
unfolding made_as_paper
returns-in-Err-Short c = c.told-in-Err-Short.ensures ∙ sym (ap made_as_paper (c.in-Err-Short.is ∙ ap (λ (x : MakeError). Err x) (rw c.in-Err-Short.is at c.in-Err-Short.field-0-is)))

pub returns-in-Err-Refused : goal.returns-in-Err-Refused
unfolding made_as_paper
returns-in-Err-Refused c = c.within.ensures ∙ ap (inside 54) c.of_report.ensures ∙ sym (ap made_as_paper (c.in-Err-Refused.is ∙ ap (λ (x : MakeError). Err x) (rw c.in-Err-Refused.is at c.in-Err-Refused.field-0-is)))
