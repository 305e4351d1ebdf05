-- `recall::telling::end_told` meets its contract.
use Rattle.views.specs.Shown.{table_by}
use Rattle.recall.proofs.Tellings.{end-one, end-other}
use Rattle.recall.proofs.telling.end_told.Goals as goal

pub returns-then-is_one : goal.returns-then-is_one
returns-then-is_one c =
    let a = c.args in
    end-one a.memo.now (table_by a.base.now a.b.now a.index.now a.view) a.t.0 c.base_told-a.ensures c.step_in.ensures c.is_one.ensures c.if-is_one.true c.told.ensures

pub returns : goal.returns
returns c =
    let a = c.args in
    end-other a.memo.now (table_by a.base.now a.b.now a.index.now a.view) a.t.0 c.base_told-a.ensures c.step_in.ensures c.is_one.ensures c.if-is_one.false
