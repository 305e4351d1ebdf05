-- `spans::plain_span` meets its contract: an INT has bits of its own.
use mathlib.Core.Path.{refl, sym, ◌∙◌}
use Rattle.paper.specs.terms.Reading.{record_in}
use Rattle.rows.proofs.RecordWords.{kind-read, int-read}
use Rattle.spans.proofs.SpanTests.{plain_other, plain_int}
use Rattle.spans.proofs.plain_span.Goals as goal

pub returns-then-kind_of-ne-INT : goal.returns-then-kind_of-ne-INT
returns-then-kind_of-ne-INT c =
    let a = c.args in
    plain_other (record_in a.order a.bytes.now) (kind-read _ _ refl c.read.ensures c.kind_of.ensures) a.offset a.size
    c.if-kind_of-ne-INT.true c.whole_span.ensures

pub returns : goal.returns
returns c =
    let a = c.args in
    let kind = kind-read _ a.bytes.now refl c.read.ensures c.kind_of.ensures in
    plain_int (record_in a.order a.bytes.now) kind a.offset a.size c.if-kind_of-ne-INT.false
    (int-read _ a.bytes.now (sym kind ∙ c.if-kind_of-ne-INT.false) c.read-w.ensures)
