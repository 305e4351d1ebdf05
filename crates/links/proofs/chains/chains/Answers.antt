-- `links::chains::chains` meets its contract: what phase 5 says from a root on is what it says at all.
use Prim.Native.Nat.{◌+◌}
use mathlib.Core.Bool.{Bool}
use mathlib.Core.Path.{◌≡◌, refl, subst}
use Rattle.paper.specs.rules.Chain.{held_by}
use Rattle.views.specs.Shown.{table_by}
use Rattle.links.specs.Search.{done, Followed}
use Rattle.links.proofs.Roots.{rooting-start, rooting-done, rooting-ring, rooting-asks, rooting-next}
use Rattle.links.proofs.chains.chains.Goals as goal

-- what a visit tells, by its answer
followed : (c : goal.Then-visit) {z : Bool} →
    let a = c.args in
    c.visit.result ≡ z
    → Followed (held_by (table_by a.base.now a.b.now a.index.now a.view)) (done (table_by a.base.now a.b.now a.index.now a.view))
    a.view.n (c.loop-k.k + 1) c.visit.new.work z
followed c e =
    let T = table_by c.args.base.now c.args.b.now c.args.index.now c.args.view in
    subst (Followed (held_by T) (done T) c.args.view.n (c.loop-k.k + 1) c.visit.new.work) e c.visit.ensures

-- what a visit tells, by its answer
followed-2 : (c : goal.Else-visit) {z : Bool} →
    let a = c.args in
    c.visit.result ≡ z
    → Followed (held_by (table_by a.base.now a.b.now a.index.now a.view)) (done (table_by a.base.now a.b.now a.index.now a.view))
    a.view.n (c.loop-k.k + 1) c.visit.new.work z
followed-2 c e =
    let T = table_by c.args.base.now c.args.b.now c.args.index.now c.args.view in
    subst (Followed (held_by T) (done T) c.args.view.n (c.loop-k.k + 1) c.visit.new.work) e c.visit.ensures

pub loop-k-init : goal.loop-k-init
loop-k-init c = rooting-start c.requires

pub visit-requires : goal.visit-requires
visit-requires c = rooting-asks c.loop-k.invariant c.loop-k-test.true

pub returns-then-visit : goal.returns-then-visit
returns-then-visit c = rooting-ring c.loop-k.invariant c.loop-k-test.true refl (followed c c.if-visit.true)

pub loop-k-preserved : goal.loop-k-preserved
loop-k-preserved c = rooting-next c.loop-k.invariant c.loop-k-test.true c.visit.auto.work (followed-2 c c.if-visit.false)

pub returns : goal.returns
returns c = rooting-done c.loop-k.invariant c.loop-k-test.false
