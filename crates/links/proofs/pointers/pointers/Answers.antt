-- `links::pointers::pointers` meets its contract: what is said from a root on is what is said at all.
use Prim.Native.Nat.{◌+◌}
use mathlib.Core.Bool.{Bool}
use mathlib.Core.Path.{◌≡◌, subst}
use Rattle.paper.specs.rules.Chain.{pointed_by}
use Rattle.views.specs.Shown.{table_by}
use Rattle.links.specs.Trail.{Trailed}
use Rattle.links.proofs.Pointing.{pointing-start, pointing-asks, pointing-done, pointing-ring, pointing-next}
use Rattle.links.proofs.pointers.pointers.Goals as goal

-- what a line tells, by its answer
trailed : (c : goal.Then-trail) {z : Bool} → let a = c.args in
    c.trail.result ≡ z
    → Trailed (pointed_by (table_by a.base.now a.b.now a.index.now a.view)) a.view.n (c.loop-k.k + 1) c.trail.new.work z
trailed c e =
    let T = table_by c.args.base.now c.args.b.now c.args.index.now c.args.view in
    subst (Trailed (pointed_by T) c.args.view.n (c.loop-k.k + 1) c.trail.new.work) e c.trail.ensures

-- what a line tells, by its answer
trailed-2 : (c : goal.Else-trail) {z : Bool} → let a = c.args in
    c.trail.result ≡ z
    → Trailed (pointed_by (table_by a.base.now a.b.now a.index.now a.view)) a.view.n (c.loop-k.k + 1) c.trail.new.work z
trailed-2 c e =
    let T = table_by c.args.base.now c.args.b.now c.args.index.now c.args.view in
    subst (Trailed (pointed_by T) c.args.view.n (c.loop-k.k + 1) c.trail.new.work) e c.trail.ensures

pub loop-k-init : goal.loop-k-init
loop-k-init c = pointing-start c.requires

pub trail-requires : goal.trail-requires
trail-requires c = pointing-asks c.loop-k.invariant c.loop-k-test.true

pub returns-then-trail : goal.returns-then-trail
returns-then-trail c = pointing-ring c.loop-k.invariant c.loop-k-test.true (trailed c c.if-trail.true)

pub loop-k-preserved : goal.loop-k-preserved
loop-k-preserved c = pointing-next c.loop-k.invariant c.loop-k-test.true c.trail.auto.work (trailed-2 c c.if-trail.false)

pub returns : goal.returns
returns c = pointing-done c.loop-k.invariant c.loop-k-test.false
