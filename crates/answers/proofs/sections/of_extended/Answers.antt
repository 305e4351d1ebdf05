-- `answers::sections::of_extended` meets its contract: each answer is its number, with the report inside.
use Rattle.std.specs.Prelude.{Err}
use Rattle.exts.specs.declared.ExtError.{ExtError}
use Prim.Native.Nat.{ℕ}
use mathlib.Core.Path.{sym, ap, ◌∙◌}
use Rattle.exts.specs.Ext.{extended_as_paper}
use Rattle.paper.specs.rules.Answer.{inside, report}
use Rattle.answers.proofs.sections.of_extended.Goals as goal

pub returns-in-Ok : goal.returns-in-Ok
unfolding extended_as_paper
returns-in-Ok c = c.valued.ensures ∙ sym (ap extended_as_paper c.in-Ok.is)

pub returns-in-Err-TableRefused : goal.returns-in-Err-TableRefused
unfolding extended_as_paper
returns-in-Err-TableRefused c = c.within.ensures ∙ ap (inside 40) c.of_report.ensures ∙ sym (ap extended_as_paper (c.in-Err-TableRefused.is ∙ ap (λ (x : ExtError). Err x) (rw c.in-Err-TableRefused.is at c.in-Err-TableRefused.field-0-is)))

pub returns-in-Err-Refused : goal.returns-in-Err-Refused
unfolding extended_as_paper
returns-in-Err-Refused c = c.told.ensures ∙ ap (λ (n : ℕ). report n 0) c.number_of.ensures ∙ sym (ap extended_as_paper (c.in-Err-Refused.is ∙ ap (λ (x : ExtError). Err x) (rw c.in-Err-Refused.is at c.in-Err-Refused.field-0-is)))
