-- `glance::whole::type_behind` meets its contract.
use Prim.Native.Nat.{◌+◌, ◌-◌}
use mathlib.Core.Path.{sym, ap}
use mathlib.Core.Bool.{Bool, cond}
use Rattle.glance.proofs.whole.type_behind.Goals as goal

pub returns-then-back : goal.returns-then-back
returns-then-back c =
    let a = c.args in
    sym (ap (λ (z : Bool). cond z (a.n - a.k) (a.k + 1)) c.if-back.true)

pub returns : goal.returns
returns c =
    let a = c.args in
    sym (ap (λ (z : Bool). cond z (a.n - a.k) (a.k + 1)) c.if-back.false)
