-- `groups::walk::judge_part` meets its contract: nothing, 45, or its groups.
use mathlib.Core.Bool.{not}
use mathlib.Core.Path.{ap}
use mathlib.Core.List.{[]}
use mathlib.Core.Path.{◌∙◌}
use Rattle.groups.proofs.Walks.{part-empty, part-size, part-groups}
use Rattle.views.specs.Shown.{table_by}
use Rattle.groups.proofs.walk.judge_part.Goals as goal

pub returns-then-end-from : goal.returns-then-end-from
returns-then-end-from c =
    let a = c.args in
    part-empty (table_by [] a.b.now a.index.now a.view) a.strings a.s.now a.sort a.from a.end c.if-end-from.true

pub returns-then-not-size_ok : goal.returns-then-not-size_ok
returns-then-not-size_ok c =
    let a = c.args in
    part-size (table_by [] a.b.now a.index.now a.view) a.strings a.s.now a.sort a.from a.end c.if-end-from.false c.blob_word-size.ensures c.size_ok.ensures (ap not c.if-not-size_ok.true)

pub returns : goal.returns
returns c =
    let a = c.args in
    c.judge_groups.ensures
    ∙ part-groups (table_by [] a.b.now a.index.now a.view) a.strings a.s.now a.sort a.from a.end c.if-end-from.false c.blob_word-size.ensures c.size_ok.ensures (ap not c.if-not-size_ok.false)
