-- `rules::quick::spaced_ok` meets its contract: what is left of the members has the names that all have.
use mathlib.Core.Bool.{not}
use mathlib.Core.Path.{ap}
use native.Mathlib.Omega.{arith}
use Rattle.rows.proofs.ByRole.{entering-start, entering-done, entering-bad}
use Rattle.rules.proofs.Spaced.{member-name, member-next}
use Rattle.rules.proofs.quick.spaced_ok.Goals as goal

pub loop-i-init : goal.loop-i-init
loop-i-init c = entering-start (omega arith)

pub returns-then-not-optional_ok : goal.returns-then-not-optional_ok
returns-then-not-optional_ok c =
    entering-bad c.loop-i.invariant (omega arith) (member-name _ _ _ _ _ c.read.ensures c.optional_ok.ensures) (ap not c.if-not-optional_ok.true)

pub loop-i-preserved : goal.loop-i-preserved
loop-i-preserved c =
    member-next _ _ _ _ _ c.loop-i.invariant (omega arith) (member-name _ _ _ _ _ c.read.ensures c.optional_ok.ensures)
    (ap not c.if-not-optional_ok.false) (omega arith)

pub returns : goal.returns
returns c = entering-done c.loop-i.invariant (omega arith)
