-- `layout::others::array_ok` meets its contract: the element decides, and then the index INT.
use mathlib.Core.Bool.{not}
use mathlib.Core.Path.{ap}
use Rattle.layout.specs.Told.{recalled}
use Rattle.paper.specs.terms.Reading.{record_in}
use Rattle.rows.proofs.RecordWords.{element-read, index_read}
use Rattle.layout.proofs.OtherTests.{array-sizeless, array-index}
use Rattle.layout.proofs.others.array_ok.Goals as goal

pub returns-then-not-has_size : goal.returns-then-not-has_size
returns-then-not-has_size c =
    let bytes = c.args.bytes.now in
    array-sizeless (recalled c.args.base.now c.args.b.now c.args.index.now c.args.view c.args.memo.now) (record_in c.args.view.order bytes)
    (element-read _ bytes c.requires c.read.ensures) c.has_size.ensures (ap not c.if-not-has_size.true)

pub returns : goal.returns
returns c =
    let bytes = c.args.bytes.now in
    array-index (recalled c.args.base.now c.args.b.now c.args.index.now c.args.view c.args.memo.now) (record_in c.args.view.order bytes)
    (element-read _ bytes c.requires c.read.ensures) c.has_size.ensures (ap not c.if-not-has_size.false)
    (index_read _ bytes c.requires c.read-2.ensures) (record_in c.args.view.order c.record_of-by.result.now)
    c.record_of-by.ensures.shows c.is_regular.ensures
