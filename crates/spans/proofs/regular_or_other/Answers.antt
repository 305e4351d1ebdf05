-- `spans::regular_or_other` meets its contract: only of an INT is more asked.
use mathlib.Core.Path.{refl}
use Rattle.paper.specs.terms.Reading.{record_in}
use Rattle.rows.proofs.RecordWords.{kind-read}
use Rattle.spans.proofs.SpanTests.{either-other, either-int}
use Rattle.spans.proofs.regular_or_other.Goals as goal

pub returns-then-kind_of-ne-INT : goal.returns-then-kind_of-ne-INT
returns-then-kind_of-ne-INT c =
    let a = c.args in
    let s = a.s.now in
    either-other (record_in a.order s) (kind-read _ _ refl c.read.ensures c.kind_of.ensures) c.if-kind_of-ne-INT.true

pub returns : goal.returns
returns c =
    let a = c.args in
    let s = a.s.now in
    either-int (record_in a.order s) (kind-read _ _ refl c.read.ensures c.kind_of.ensures) c.if-kind_of-ne-INT.false c.is_regular.ensures
