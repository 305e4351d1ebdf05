-- `answers::sections::of_found` meets its contract: a record by its group's name offset and its place, or 1.
use mathlib.Core.Path.{sym, ap, ◌∙◌}
use Rattle.exts.specs.Entries.{found_as_paper}
use Rattle.answers.proofs.sections.of_found.Goals as goal

pub returns-in-Some : goal.returns-in-Some
unfolding found_as_paper
returns-in-Some c = sym (ap found_as_paper c.in-Some.is)

pub returns-in-None : goal.returns-in-None
unfolding found_as_paper
returns-in-None c = c.told.ensures ∙ sym (ap found_as_paper c.in-None.is)
