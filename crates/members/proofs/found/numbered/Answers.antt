-- `members::found::numbered` meets its contract: an integer or an enum has a span.
use mathlib.Core.Bool.{not}
use mathlib.Core.Path.{ap}
use mathlib.Core.Path.{refl}
use Rattle.paper.specs.terms.Reading.{record_in}
use Rattle.rows.proofs.RecordWords.{kind-read}
use Rattle.values.specs.Given.{sort_number}
use Rattle.views.specs.Shown.{table_by}
use Rattle.members.proofs.Seeking.{numbered-none, numbered-some}
use Rattle.members.proofs.found.numbered.Goals as goal

pub returns-then-not-is_number : goal.returns-then-not-is_number
unfolding sort_number
returns-then-not-is_number c =
    let a = c.args in
    let T = table_by a.base.now a.b.now a.index.now a.view in
    let base = record_in a.view.order c.base_record-under.result.now in
    numbered-none T a.flag a.size a.t.0 a.offset base c.base_record-under.ensures
    (kind-read _ c.base_record-under.result.now refl c.read.ensures c.kind_of.ensures) c.is_number.ensures (ap not c.if-not-is_number.true) c.no_span.ensures

pub returns : goal.returns
unfolding sort_number
returns c =
    let a = c.args in
    let T = table_by a.base.now a.b.now a.index.now a.view in
    let base = record_in a.view.order c.base_record-under.result.now in
    numbered-some T a.flag a.size a.t.0 a.offset base c.base_record-under.ensures
    (kind-read _ c.base_record-under.result.now refl c.read.ensures c.kind_of.ensures) c.is_number.ensures (ap not c.if-not-is_number.false)
    c.is_signed-signed.ensures c.member_span.result c.member_span.ensures c.found.ensures
