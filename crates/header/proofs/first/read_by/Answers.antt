-- `header::first::read_by` meets its contract: the first of the five tests that fails is the report.
use Rattle.paper.specs.rules.Answer.{report_as_paper}
use Rattle.paper.specs.rules.Header.{type_len, str_len}
use Rattle.header.proofs.Headers.{tells, due-length, due-opening, due-header, due-sections, due-strings, due-none}
use Rattle.header.proofs.first.read_by.Goals as goal

pub returns-then-one : goal.returns-then-one
unfolding report_as_paper
returns-then-one c = due-length _ _ _ c.if-one.true

pub returns-then-opening_bad : goal.returns-then-opening_bad
unfolding report_as_paper
returns-then-opening_bad c = due-opening _ _ _ c.if-one.false (tells c.opening_bad.ensures c.if-opening_bad.true)

pub returns-then-header_length_bad : goal.returns-then-header_length_bad
unfolding report_as_paper
returns-then-header_length_bad c =
    due-header _ _ _ c.if-one.false
    (tells c.opening_bad.ensures c.if-opening_bad.false)
    (tells c.header_length_bad.ensures c.if-header_length_bad.true)

pub returns-then-sections_bad : goal.returns-then-sections_bad
unfolding report_as_paper
returns-then-sections_bad c =
    due-sections _ _ _ c.if-one.false
    (tells c.opening_bad.ensures c.if-opening_bad.false)
    (tells c.header_length_bad.ensures c.if-header_length_bad.false)
    (tells c.sections_bad.ensures c.if-sections_bad.true)

pub returns-then-five : goal.returns-then-five
unfolding report_as_paper
returns-then-five c =
    due-strings _ _ _ c.if-one.false
    (tells c.opening_bad.ensures c.if-opening_bad.false)
    (tells c.header_length_bad.ensures c.if-header_length_bad.false)
    (tells c.sections_bad.ensures c.if-sections_bad.false) c.if-five.true

pub returns : goal.returns
unfolding type_len str_len
returns c =
    record {
      silent =
          due-none _ _ _ c.if-one.false
          (tells c.opening_bad.ensures c.if-opening_bad.false)
          (tells c.header_length_bad.ensures c.if-header_length_bad.false)
          (tells c.sections_bad.ensures c.if-sections_bad.false) c.if-five.false;
      types = c.blob_word.ensures;
      strings = c.blob_word-2.ensures;
    }
