-- `layout::others::tag_ok` meets its contract: all ones, or a part of what it points at.
use mathlib.Core.Path.{refl}
use Rattle.views.specs.Shown.{table_by}
use Rattle.paper.specs.terms.Reading.{record_in}
use Rattle.rows.proofs.RecordWords.{third-read, component-read}
use Rattle.layout.proofs.OtherTests.{tag-whole, tag-part}
use Rattle.layout.proofs.others.tag_ok.Goals as goal

pub returns-then-component : goal.returns-then-component
returns-then-component c =
    let bytes = c.args.bytes.now in
    tag-whole (table_by c.args.base.now c.args.b.now c.args.index.now c.args.view) (record_in c.args.view.order bytes)
    (component-read _ bytes c.requires c.read-component.ensures) c.if-component.true

pub returns : goal.returns
returns c =
    let bytes = c.args.bytes.now in
    tag-part (table_by c.args.base.now c.args.b.now c.args.index.now c.args.view) (record_in c.args.view.order bytes)
    (component-read _ bytes c.requires c.read-component.ensures) c.if-component.false
    (third-read _ bytes refl c.read.ensures) (record_in c.args.view.order c.record_of-target.result.now) c.record_of-target.ensures.shows
    c.components_of.ensures
