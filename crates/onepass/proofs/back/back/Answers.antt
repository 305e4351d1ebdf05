-- `onepass::back::back` meets its contract. The loop's invariant: `Backing`.
use Prim.Native.Nat.{◌+◌, ◌-◌}
use native.Mathlib.Omega.{arith}
use mathlib.Core.Bool.{false≢true}
use mathlib.Core.Path.{◌≡◌}
use Rattle.onepass.proofs.Backing.{backing-start, backing-next, backing-done, indexed-room}
use Rattle.onepass.proofs.back.back.Goals as goal

pub loop-k-init : goal.loop-k-init
loop-k-init c = backing-start (omega arith) c.requires.0.counted c.requires.0.told

pub settle-requires : goal.settle-requires
settle-requires c =
    let inv = c.loop-k.invariant in (
      indexed-room c.requires.0.indexed inv.size-kept,
      inv.now,
      c.requires.1,
      omega arith,
      inv.high,
    )

pub returns-then-settle-ne2 : goal.returns-then-settle-ne2
returns-then-settle-ne2 c = λ e. absurd (false≢true e)

pub loop-k-preserved : goal.loop-k-preserved
loop-k-preserved c =
    let next : c.args.n - c.loop-k.k - 1 ≡ c.args.n - (c.loop-k.k + 1) = omega arith in
    rw next at (backing-next c.loop-k.invariant (omega arith) c.settle.auto.work c.settle.ensures c.if-settle-ne2.false)

pub returns : goal.returns
returns c = λ e. backing-done c.loop-k.invariant (omega arith) c.requires.0.counted
