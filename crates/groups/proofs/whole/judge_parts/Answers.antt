-- `groups::whole::judge_parts` meets its contract: one part behind the other.
use mathlib.Core.List.{[]}
use mathlib.Core.Path.{refl}
use Rattle.paper.proofs.basics.Exits.{exit-same}
use Rattle.groups.proofs.Wholes.{strings-shown, parts_first, parts-second, parts-third}
use Rattle.views.specs.Shown.{table_by}
use Rattle.groups.proofs.whole.judge_parts.Goals as goal

pub returns-in_err-judge_part : goal.returns-in_err-judge_part
returns-in_err-judge_part c =
    let a = c.args in
    let f = a.front in
    rw (exit-same c.from_residual.result c.from_residual.ensures.1)
    (parts_first (table_by [] a.b.now a.index.now a.view) a.s.now f.functions f.lines f.relocations f.end
    (strings-shown a.b.now a.index.now a.view c.strings_in-strings.ensures.bytes) c.in_err-judge_part.ensures _ refl)

pub returns-in_err-judge_part-2 : goal.returns-in_err-judge_part-2
returns-in_err-judge_part-2 c =
    let a = c.args in
    let f = a.front in
    rw (exit-same c.from_residual-in_err-judge_part-2.result c.from_residual-in_err-judge_part-2.ensures.1)
    (parts-second (table_by [] a.b.now a.index.now a.view) a.s.now f.functions f.lines f.relocations f.end
    (strings-shown a.b.now a.index.now a.view c.strings_in-strings.ensures.bytes) c.judge_part.ensures c.in_ok-judge_part.was c.in_err-judge_part-2.ensures _ refl)

pub returns : goal.returns
returns c =
    let a = c.args in
    let f = a.front in
    parts-third (table_by [] a.b.now a.index.now a.view) a.s.now f.functions f.lines f.relocations f.end
    (strings-shown a.b.now a.index.now a.view c.strings_in-strings.ensures.bytes) c.judge_part.ensures c.in_ok-judge_part.was c.judge_part-2.ensures
    c.in_ok-judge_part-2.was c.judge_part-3.ensures
