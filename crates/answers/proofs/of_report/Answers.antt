-- `answers::of_report` meets its contract: each report is its number, at the type that it names and that type's place.
use mathlib.Core.Path.{sym, ap, ◌∙◌}
use Rattle.paper.specs.rules.Answer.{report_as_paper}
use Rattle.answers.proofs.of_report.Goals as goal

pub returns-in-Length : goal.returns-in-Length
unfolding report_as_paper
returns-in-Length c = c.told.ensures ∙ sym (ap report_as_paper c.in-Length.is)

pub returns-in-Opening : goal.returns-in-Opening
unfolding report_as_paper
returns-in-Opening c = c.told-in-Opening.ensures ∙ sym (ap report_as_paper c.in-Opening.is)

pub returns-in-HeaderLength : goal.returns-in-HeaderLength
unfolding report_as_paper
returns-in-HeaderLength c = c.told-in-HeaderLength.ensures ∙ sym (ap report_as_paper c.in-HeaderLength.is)

pub returns-in-Sections : goal.returns-in-Sections
unfolding report_as_paper
returns-in-Sections c = c.told-in-Sections.ensures ∙ sym (ap report_as_paper c.in-Sections.is)

pub returns-in-Strings : goal.returns-in-Strings
unfolding report_as_paper
returns-in-Strings c = c.told-in-Strings.ensures ∙ sym (ap report_as_paper c.in-Strings.is)

pub returns-in-RecordCut : goal.returns-in-RecordCut
unfolding report_as_paper
returns-in-RecordCut c = c.placed.ensures ∙ sym (ap report_as_paper c.in-RecordCut.is)

pub returns-in-UnknownKind : goal.returns-in-UnknownKind
unfolding report_as_paper
returns-in-UnknownKind c = c.placed-in-UnknownKind.ensures ∙ sym (ap report_as_paper c.in-UnknownKind.is)

pub returns-in-ManyTypes : goal.returns-in-ManyTypes
unfolding report_as_paper
returns-in-ManyTypes c = c.placed-in-ManyTypes.ensures ∙ sym (ap report_as_paper c.in-ManyTypes.is)

pub returns-in-SlicesShort : goal.returns-in-SlicesShort
unfolding report_as_paper
returns-in-SlicesShort c = c.told-in-SlicesShort.ensures ∙ sym (ap report_as_paper c.in-SlicesShort.is)

pub returns-in-Head : goal.returns-in-Head
unfolding report_as_paper
returns-in-Head c = c.placed-in-Head.ensures ∙ sym (ap report_as_paper c.in-Head.is)

pub returns-in-Named : goal.returns-in-Named
unfolding report_as_paper
returns-in-Named c = c.placed-in-Named.ensures ∙ sym (ap report_as_paper c.in-Named.is)

pub returns-in-Tail : goal.returns-in-Tail
unfolding report_as_paper
returns-in-Tail c = c.placed-in-Tail.ensures ∙ sym (ap report_as_paper c.in-Tail.is)

pub returns-in-Reference : goal.returns-in-Reference
unfolding report_as_paper
returns-in-Reference c = c.placed-in-Reference.ensures ∙ sym (ap report_as_paper c.in-Reference.is)

pub returns-in-Endless : goal.returns-in-Endless
unfolding report_as_paper
returns-in-Endless c = c.placed-in-Endless.ensures ∙ sym (ap report_as_paper c.in-Endless.is)

pub returns-in-Layout : goal.returns-in-Layout
unfolding report_as_paper
returns-in-Layout c = c.placed-in-Layout.ensures ∙ sym (ap report_as_paper c.in-Layout.is)
