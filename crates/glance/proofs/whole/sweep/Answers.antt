-- `glance::whole::sweep` meets its contract.
use native.Mathlib.Omega.{arith}
use Rattle.glance.proofs.Glances.{sweeping-start, next_low, next-high, sweeping-next, sweeping-done}
use Rattle.glance.proofs.whole.sweep.Goals as goal
use Rattle.glance.proofs.whole.sweep.Goals.{then-went-ne2, else-went-ne2}

pub loop-k-init : goal.loop-k-init
loop-k-init c = sweeping-start _ _ _ c.requires

pub type_behind-t-requires : goal.type_behind-t-requires
type_behind-t-requires c = c.loop-k-test.true

pub settle-went-requires : goal.settle-went-requires
settle-went-requires c =
    let h = c.loop-k-test.true in
    let a = c.args in
    (c.loop-k.invariant.now, next_low a.back a.view.n c.loop-k.k h c.type_behind-t.ensures, next-high a.back a.view.n c.loop-k.k h c.type_behind-t.ensures)

pub returns-then-went-eq0 : goal.returns-then-went-eq0
returns-then-went-eq0 c = (c.settle-went.ensures.now, (λ two. absurd (omega arith)))

pub loop-k-preserved : goal.loop-k-preserved
loop-k-preserved c =
    sweeping-next _ _ c.loop-k.invariant c.loop-k-test.true c.type_behind-t.ensures c.settle-went.auto.work c.settle-went.ensures
    (λ two. elim c.if-went-ne2.branch [ then-went-ne2 w ↦ absurd (omega (arith, w.all-is)) | else-went-ne2 w ↦ (omega (arith, w.all-is), w.if-went-ne2.false) ])

pub returns : goal.returns
returns c =
    let l = c.loop-k.invariant in
    (l.now, sweeping-done _ _ l c.loop-k-test.false)
