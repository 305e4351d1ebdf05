-- `layout::others::components_of` meets its contract: by the kind of what a tag points at.
use mathlib.Core.Path.{refl}
use Rattle.views.specs.Shown.{table_by}
use Rattle.paper.specs.terms.Reading.{record_in}
use Rattle.rows.proofs.RecordWords.{kind-read, vlen-read, third-read}
use Rattle.layout.proofs.OtherTests.{components-struct, components-union, components-none, components-func}
use Rattle.layout.proofs.others.components_of.Goals as goal

pub returns-then-kind-eq-STRUCT : goal.returns-then-kind-eq-STRUCT
returns-then-kind-eq-STRUCT c =
    let target = c.args.target.now in
    let kind = kind-read _ target refl c.read-info.ensures c.kind_of-kind.ensures in
    let T = table_by c.args.base.now c.args.b.now c.args.index.now c.args.view in
    components-struct T (record_in c.args.view.order target) kind c.if-kind-eq-STRUCT.true (vlen-read _ target refl c.read-info.ensures c.vlen_of.ensures)

pub returns-then-kind-eq-UNION : goal.returns-then-kind-eq-UNION
returns-then-kind-eq-UNION c =
    let target = c.args.target.now in
    let kind = kind-read _ target refl c.read-info.ensures c.kind_of-kind.ensures in
    let T = table_by c.args.base.now c.args.b.now c.args.index.now c.args.view in
    components-union T (record_in c.args.view.order target) kind c.if-kind-eq-UNION.true (vlen-read _ target refl c.read-info.ensures c.vlen_of-then-kind-eq-UNION.ensures)

pub returns-then-kind-ne-FUNC : goal.returns-then-kind-ne-FUNC
returns-then-kind-ne-FUNC c =
    let target = c.args.target.now in
    let kind = kind-read _ target refl c.read-info.ensures c.kind_of-kind.ensures in
    let T = table_by c.args.base.now c.args.b.now c.args.index.now c.args.view in
    components-none T (record_in c.args.view.order target) kind c.if-kind-eq-STRUCT.false c.if-kind-eq-UNION.false c.if-kind-ne-FUNC.true

pub returns : goal.returns
returns c =
    let target = c.args.target.now in
    let kind = kind-read _ target refl c.read-info.ensures c.kind_of-kind.ensures in
    let T = table_by c.args.base.now c.args.b.now c.args.index.now c.args.view in
    let proto = c.record_of-proto.result.now in
    components-func T (record_in c.args.view.order target) kind c.if-kind-eq-STRUCT.false c.if-kind-eq-UNION.false c.if-kind-ne-FUNC.false
    (third-read _ target refl c.read.ensures) (record_in c.args.view.order proto) c.record_of-proto.ensures.shows
    (vlen-read _ proto refl c.read-2.ensures c.vlen_of-2.ensures)
