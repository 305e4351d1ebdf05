-- `recall::named::all_named` meets its contract. The loop's invariant: what is left of the parameters is asked what all are asked.
use Prim.Native.Nat.{◌+◌, ◌*◌}
use mathlib.Core.Path.{◌≡◌}
use native.Mathlib.Omega.{arith}
use Rattle.recall.proofs.NamedLeft.{naming-start, naming-done, naming-next, naming-inner, naming-last}
use Rattle.recall.proofs.named.all_named.Goals as goal

pub loop-i-init : goal.loop-i-init
loop-i-init c = (_, omega arith, naming-start _ c.args.bytes.now c.read.ensures c.tail_words-n.ensures)

pub returns-then-i-n : goal.returns-then-i-n
returns-then-i-n c = naming-inner c.loop-i.invariant.2 (omega arith) c.read-in-loop-i.ensures c.if-read-eq0.true (omega arith)

pub returns-then-read-eq0 : goal.returns-then-read-eq0
returns-then-read-eq0 c =
    naming-last c.loop-i.invariant.2 (omega arith) c.read-in-loop-i.ensures c.if-read-eq0.true (omega arith) c.read-then-read-eq0.ensures

pub loop-i-preserved : goal.loop-i-preserved
loop-i-preserved c =
    let next : 12 + 8 * c.loop-i.i + 8 ≡ 12 + 8 * (c.loop-i.i + 1) = omega arith in
    (_, omega arith, rw next at (naming-next c.loop-i.invariant.2 (omega arith) c.read-in-loop-i.ensures c.if-read-eq0.false))

pub returns : goal.returns
returns c = naming-done c.loop-i.invariant.2 (omega arith)
