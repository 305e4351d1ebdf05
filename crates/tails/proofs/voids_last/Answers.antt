-- `tails::voids_last` meets its contract: what is left of the parameters is asked what all are asked.
use native.Mathlib.Omega.{arith}
use Rattle.tails.proofs.Parameters.{asking-start, asking-done, asking-inner, asking-last, asking-next}
use Rattle.tails.proofs.voids_last.Goals as goal

pub loop-i-init : goal.loop-i-init
loop-i-init c = asking-start _ _ _

pub returns-then-i-n : goal.returns-then-i-n
returns-then-i-n c = asking-inner c.loop-i.invariant c.read.ensures (omega arith) c.if-read-eq0.true (omega (arith, c.if-i-n.true))

pub returns-then-read-eq0 : goal.returns-then-read-eq0
returns-then-read-eq0 c = asking-last c.loop-i.invariant c.read.ensures c.if-read-eq0.true c.if-i-n.false c.read-then-read-eq0.ensures

pub loop-i-preserved : goal.loop-i-preserved
loop-i-preserved c = asking-next c.loop-i.invariant c.read.ensures (omega arith) c.if-read-eq0.false

pub returns : goal.returns
returns c = asking-done c.loop-i.invariant c.loop-i-test.false
