-- `links::chains::follow` meets its contract: where the search stands is kept, and there is less and less to do.
use mathlib.Core.Path.{◌≡◌, subst}
use Rattle.paper.specs.rules.Table.{record_at}
use Rattle.recall.specs.Recall.{mark_told}
use Rattle.views.specs.Shown.{table_by}
use Rattle.links.specs.declared.chains.Move.{Move}
use Rattle.links.specs.Search.{MoveOf}
use Rattle.links.proofs.Following.{following-start, following-type, following-ring, following-finished, following-on}
use Rattle.links.proofs.chains.follow.Goals as goal

-- what a step tells, by its answer
moved : (c : goal.In-On) {s : Move} → let a = c.args in
    c.move_from.result ≡ s
    → MoveOf (record_at (table_by a.base.now a.b.now a.index.now a.view) c.loop-u.t) c.loop-u.work c.loop-u.t c.loop-u.j
    (let T = table_by a.base.now a.b.now a.index.now a.view in mark_told c.loop-u.work T (record_at T c.loop-u.t))
    c.move_from.new.work s
moved c e = subst (MoveOf _ _ _ _ _ _) e c.move_from.ensures

-- what a step tells, by its answer
moved-2 : (c : goal.In-Met) {s : Move} → let a = c.args in
    c.move_from.result ≡ s
    → MoveOf (record_at (table_by a.base.now a.b.now a.index.now a.view) c.loop-u.t) c.loop-u.work c.loop-u.t c.loop-u.j
    (let T = table_by a.base.now a.b.now a.index.now a.view in mark_told c.loop-u.work T (record_at T c.loop-u.t))
    c.move_from.new.work s
moved-2 c e = subst (MoveOf _ _ _ _ _ _) e c.move_from.ensures

-- what a step tells, by its answer
moved-3 : (c : goal.In-Finished) {s : Move} → let a = c.args in
    c.move_from.result ≡ s
    → MoveOf (record_at (table_by a.base.now a.b.now a.index.now a.view) c.loop-u.t) c.loop-u.work c.loop-u.t c.loop-u.j
    (let T = table_by a.base.now a.b.now a.index.now a.view in mark_told c.loop-u.work T (record_at T c.loop-u.t))
    c.move_from.new.work s
moved-3 c e = subst (MoveOf _ _ _ _ _ _) e c.move_from.ensures

pub loop-u-init : goal.loop-u-init
loop-u-init c = let p = c.requires in following-start p.0 p.1

pub move_from-requires : goal.move_from-requires
move_from-requires c = let l = c.loop-u in (l.invariant.ready, following-type l.invariant)

pub loop-u-smaller : goal.loop-u-smaller
loop-u-smaller c = (following-on c.loop-u.invariant (moved c c.in-On.is)).0

pub loop-u-preserved : goal.loop-u-preserved
loop-u-preserved c = (following-on c.loop-u.invariant (moved c c.in-On.is)).1

pub returns-in-Met : goal.returns-in-Met
returns-in-Met c = following-ring c.loop-u.invariant (moved-2 c c.in-Met.is)

pub returns-in-Finished : goal.returns-in-Finished
returns-in-Finished c = following-finished c.loop-u.invariant (moved-3 c c.in-Finished.is)
