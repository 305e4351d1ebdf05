-- `recall::telling::size_told` meets its contract.
use Rattle.views.specs.Shown.{table_by}
use Rattle.paper.specs.terms.Reading.{record_in}
use Rattle.recall.proofs.Tellings.{size-base}
use Rattle.recall.proofs.telling.size_told.Goals as goal

pub returns : goal.returns
returns c =
    let a = c.args in
    size-base a.memo.now (table_by a.base.now a.b.now a.index.now a.view) a.t.0 c.base_told-a.ensures (record_in a.view.order c.record_of.result.now)
    c.record_of.ensures.shows c.size_at.ensures
