-- `recall::telling::base_told` meets its contract.
use Rattle.views.specs.Shown.{table_by}
use Rattle.recall.proofs.Tellings.{base-alias, base-other}
use Rattle.recall.proofs.telling.base_told.Goals as goal

pub returns-then-is_alias : goal.returns-then-is_alias
returns-then-is_alias c =
    let a = c.args in
    base-alias a.memo.now (table_by a.base.now a.b.now a.index.now a.view) a.t.0 c.kind_at.ensures c.is_alias.ensures c.if-is_alias.true c.told.ensures

pub returns : goal.returns
returns c =
    let a = c.args in
    base-other a.memo.now (table_by a.base.now a.b.now a.index.now a.view) a.t.0 c.kind_at.ensures c.is_alias.ensures c.if-is_alias.false
