-- `layout::others::function_ok` meets its contract.
use mathlib.Core.Path.{refl}
use Rattle.layout.proofs.OtherTests.{function-told, function-names}
use Rattle.layout.specs.Told.{recalled}
use Rattle.paper.specs.terms.Reading.{record_in}
use Rattle.rows.proofs.RecordWords.{kind-read, third-read}
use Rattle.layout.proofs.others.function_ok.Goals as goal

pub returns-then-kind_of-eq-FUNC_PROTO : goal.returns-then-kind_of-eq-FUNC_PROTO
returns-then-kind_of-eq-FUNC_PROTO c =
    let a = c.args in
    let bytes = a.bytes.now in
    let proto = c.record_of-proto.result.now in
    function-told (recalled a.base.now a.b.now a.index.now a.view a.memo.now) (record_in a.view.order bytes) (third-read _ bytes refl c.read.ensures)
    (record_in a.view.order proto) c.record_of-proto.ensures.shows (kind-read _ proto refl c.read-2.ensures c.kind_of.ensures)
    c.if-kind_of-eq-FUNC_PROTO.true c.told.ensures

pub returns : goal.returns
returns c =
    let a = c.args in
    let bytes = a.bytes.now in
    let proto = c.record_of-proto.result.now in
    function-names (recalled a.base.now a.b.now a.index.now a.view a.memo.now) (record_in a.view.order bytes) (third-read _ bytes refl c.read.ensures)
    (record_in a.view.order proto) c.record_of-proto.ensures.shows (kind-read _ proto refl c.read-2.ensures c.kind_of.ensures)
    c.if-kind_of-eq-FUNC_PROTO.false c.all_named.ensures
