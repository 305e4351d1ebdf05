-- `answers::of_parted` meets its contract: each answer is its number, with both lengths or the table's own report.
use Rattle.std.specs.Prelude.{Err}
use Rattle.parts.specs.declared.SplitError.{SplitError}
use mathlib.Core.Path.{sym, ap, ◌∙◌}
use Rattle.parts.specs.Cut.{parted_as_paper}
use Rattle.answers.proofs.of_parted.Goals as goal

pub returns-in-Ok : goal.returns-in-Ok
unfolding parted_as_paper
returns-in-Ok c = sym (ap parted_as_paper c.in-Ok.is)

pub returns-in-Err-Refused : goal.returns-in-Err-Refused
unfolding parted_as_paper
returns-in-Err-Refused c = c.of_report.ensures ∙ sym (ap parted_as_paper (c.in-Err-Refused.is ∙ ap (λ (x : SplitError). Err x) (rw c.in-Err-Refused.is at c.in-Err-Refused.field-0-is)))

pub returns-in-Err-NoCut : goal.returns-in-Err-NoCut
unfolding parted_as_paper
returns-in-Err-NoCut c = c.told.ensures ∙ sym (ap parted_as_paper (c.in-Err-NoCut.is ∙ ap (λ (x : SplitError). Err x) (rw c.in-Err-NoCut.is at c.in-Err-NoCut.field-0-is)))

pub returns-in-Err-OutputShort : goal.returns-in-Err-OutputShort
unfolding parted_as_paper
returns-in-Err-OutputShort c = c.told-in-Err-OutputShort.ensures ∙ sym (ap parted_as_paper (c.in-Err-OutputShort.is ∙ ap (λ (x : SplitError). Err x) (rw c.in-Err-OutputShort.is at c.in-Err-OutputShort.field-0-is)))
