-- `refs::quick::third_plain` meets its contract: the word, and the kind that it refers to.
use Rattle.views.specs.Shown.{table_by}
use Rattle.refs.proofs.SureRefs.{third-refers}
use Rattle.refs.proofs.quick.third_plain.Goals as goal

pub returns : goal.returns
returns c =
    let a = c.args in
    third-refers a.view.order (table_by a.base.now a.b.now a.index.now a.view) a.bytes.now c.read-t.ensures
    c.kind_at.ensures c.by_rule.ensures
