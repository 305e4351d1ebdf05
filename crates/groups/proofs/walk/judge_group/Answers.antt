-- `groups::walk::judge_group` meets its contract: 46, its name, then its records.
use mathlib.Core.List.{[]}
use Rattle.paper.proofs.basics.Exits.{exit-same}
use Rattle.groups.proofs.Walks.{turn-broken, turn-named, turn-bad, turn-next}
use Rattle.views.specs.Shown.{table_by}
use Rattle.groups.proofs.walk.judge_group.Goals as goal

pub returns-in_default : goal.returns-in_default
returns-in_default c =
    let a = c.args in
    turn-broken (table_by [] a.b.now a.index.now a.view) a.strings a.s.now a.sort a.size a.at a.end c.in_default.ensures

pub returns-then-strings-group : goal.returns-then-strings-group
returns-then-strings-group c =
    let a = c.args in
    turn-named (table_by [] a.b.now a.index.now a.view) a.strings a.s.now a.sort a.size a.at a.end c.in-Some.ensures c.if-strings-group.true

pub returns-in_err-judge_entries : goal.returns-in_err-judge_entries
returns-in_err-judge_entries c =
    let a = c.args in
    rw (exit-same c.from_residual.result c.from_residual.ensures.1)
    (turn-bad (table_by [] a.b.now a.index.now a.view) a.strings a.s.now a.sort a.size a.at a.end c.in-Some.ensures c.if-strings-group.false
    c.judge_entries.ensures _ c.in_err-judge_entries.was)

pub returns : goal.returns
returns c =
    let a = c.args in
    turn-next (table_by [] a.b.now a.index.now a.view) a.strings a.s.now a.sort a.size a.at a.end c.in-Some.ensures c.if-strings-group.false
    c.judge_entries.ensures c.in_ok-judge_entries.was
