-- `spans::span_with` meets its contract: by kind_flag.
use Rattle.paper.specs.terms.Reading.{record_in}
use Rattle.spans.proofs.SpanTests.{span-field, span-plain}
use Rattle.spans.proofs.span_with.Goals as goal

pub returns-then-flag-eq1 : goal.returns-then-flag-eq1
returns-then-flag-eq1 c =
    let a = c.args in
    span-field (record_in a.order a.bytes.now) a.flag a.offset a.size c.if-flag-eq1.true c.field_span.ensures

pub returns : goal.returns
returns c =
    let a = c.args in
    span-plain (record_in a.order a.bytes.now) a.flag a.offset a.size c.if-flag-eq1.false c.plain_span.ensures
