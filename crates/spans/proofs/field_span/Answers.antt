-- `spans::field_span` meets its contract: each test that fails decides.
use mathlib.Core.Bool.{not}
use mathlib.Core.Path.{ap}
use mathlib.Core.Path.{refl}
use Rattle.paper.specs.terms.Reading.{record_in}
use Rattle.rows.proofs.RecordWords.{kind-read}
use Rattle.spans.proofs.SpanTests.{field-irregular, field-whole, field-kind, field-wide, field-on}
use Rattle.spans.proofs.field_span.Goals as goal

pub returns-then-not-regular_or_other : goal.returns-then-not-regular_or_other
returns-then-not-regular_or_other c =
    let a = c.args in
    field-irregular (record_in a.order a.bytes.now) a.offset a.size c.regular_or_other.ensures (ap not c.if-not-regular_or_other.true)

pub returns-then-w-eq0 : goal.returns-then-w-eq0
returns-then-w-eq0 c =
    let a = c.args in
    field-whole (record_in a.order a.bytes.now) a.offset a.size c.regular_or_other.ensures (ap not c.if-not-regular_or_other.false)
    c.if-w-eq0.true c.whole_span.ensures

pub returns-then-not-is_number : goal.returns-then-not-is_number
returns-then-not-is_number c =
    let a = c.args in
    field-kind (record_in a.order a.bytes.now) a.offset a.size c.regular_or_other.ensures (ap not c.if-not-regular_or_other.false) c.if-w-eq0.false
    (kind-read _ _ refl c.read.ensures c.kind_of.ensures) c.is_number.ensures (ap not c.if-not-is_number.true)

pub returns-then-size-w : goal.returns-then-size-w
returns-then-size-w c =
    let a = c.args in
    field-wide (record_in a.order a.bytes.now) a.offset a.size c.regular_or_other.ensures (ap not c.if-not-regular_or_other.false) c.if-w-eq0.false
    (kind-read _ _ refl c.read.ensures c.kind_of.ensures) c.is_number.ensures (ap not c.if-not-is_number.false) c.if-size-w.true

pub returns : goal.returns
returns c =
    let a = c.args in
    field-on (record_in a.order a.bytes.now) a.offset a.size c.regular_or_other.ensures (ap not c.if-not-regular_or_other.false) c.if-w-eq0.false
    (kind-read _ _ refl c.read.ensures c.kind_of.ensures) c.is_number.ensures (ap not c.if-not-is_number.false) c.if-size-w.false
