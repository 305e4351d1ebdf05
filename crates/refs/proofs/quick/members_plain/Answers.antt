-- `refs::quick::members_plain` meets its contract: what is left of the members has the references that all have.
use mathlib.Core.Bool.{not}
use mathlib.Core.Path.{ap}
use native.Mathlib.Omega.{arith}
use Rattle.rows.proofs.ByRole.{entering-start, entering-done, entering-bad}
use Rattle.refs.proofs.SureRefs.{member-refers, member-next}
use Rattle.refs.proofs.quick.members_plain.Goals as goal

pub loop-i-init : goal.loop-i-init
loop-i-init c = entering-start (omega arith)

pub returns-then-not-by_rule : goal.returns-then-not-by_rule
returns-then-not-by_rule c =
    entering-bad c.loop-i.invariant (omega (arith, c.vlen_of-i-end.ensures)) (member-refers _ _ _ _ c.read-t.ensures c.kind_at.ensures c.by_rule.ensures)
    (ap not c.if-not-by_rule.true)

pub loop-i-preserved : goal.loop-i-preserved
loop-i-preserved c =
    member-next _ _ _ _ c.loop-i.invariant (omega (arith, c.vlen_of-i-end.ensures)) (member-refers _ _ _ _ c.read-t.ensures c.kind_at.ensures c.by_rule.ensures)
    (ap not c.if-not-by_rule.false) (omega arith)

pub returns : goal.returns
returns c = entering-done c.loop-i.invariant (omega (arith, c.vlen_of-i-end.ensures))
