-- `spans::is_regular` meets its contract: no other kind is regular.
use mathlib.Core.Path.{refl, sym, ◌∙◌}
use Rattle.paper.specs.terms.Reading.{record_in}
use Rattle.rows.proofs.RecordWords.{kind-read, int-read}
use Rattle.spans.proofs.SpanTests.{regular-other, regular-int}
use Rattle.spans.proofs.is_regular.Goals as goal

pub returns-then-kind_of-ne-INT : goal.returns-then-kind_of-ne-INT
returns-then-kind_of-ne-INT c =
    let a = c.args in
    let s = a.s.now in
    regular-other (record_in a.order s) (kind-read _ _ refl c.read.ensures c.kind_of.ensures) c.if-kind_of-ne-INT.true

pub returns : goal.returns
returns c =
    let a = c.args in
    let s = a.s.now in
    let kind = kind-read _ s refl c.read.ensures c.kind_of.ensures in
    regular-int (record_in a.order s) kind c.if-kind_of-ne-INT.false (int-read _ s (sym kind ∙ c.if-kind_of-ne-INT.false) c.read-2.ensures) c.regular_word.ensures
