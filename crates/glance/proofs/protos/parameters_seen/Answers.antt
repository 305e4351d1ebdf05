-- `glance::protos::parameters_seen` meets its contract. The loop's invariant: where what is left of the parameters is seen, all are.
use Prim.Native.Nat.{◌+◌, ◌*◌}
use mathlib.Core.Path.{◌≡◌}
use mathlib.Core.Bool.{false≢true}
use native.Mathlib.Omega.{arith}
use Rattle.glance.proofs.ParametersSeen.{seeing-start, seeing-done, seeing-next}
use Rattle.glance.proofs.protos.parameters_seen.Goals as goal

pub loop-i-init : goal.loop-i-init
loop-i-init c = (
  _,
  omega arith,
  seeing-start c.args.work.now c.args.order c.args.bytes.now c.read.ensures c.tail_words-n.ensures,
)

pub returns-then-behind_of-eq0 : goal.returns-then-behind_of-eq0
returns-then-behind_of-eq0 c = λ e. absurd (false≢true e)

pub loop-i-preserved : goal.loop-i-preserved
loop-i-preserved c =
    let next : 12 + 8 * c.loop-i.i + 8 ≡ 12 + 8 * (c.loop-i.i + 1) = omega arith in (
      _,
      omega arith,
      rw next at
          (seeing-next c.loop-i.invariant.2 (omega arith) c.read-in-loop-i.ensures c.behind_of.ensures c.if-behind_of-eq0.false),
    )

pub returns : goal.returns
returns c = λ e. seeing-done c.loop-i.invariant.2 (omega arith)
