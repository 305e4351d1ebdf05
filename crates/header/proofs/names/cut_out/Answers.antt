-- `header::names::cut_out` meets its contract: the part, at its very place.
use Prim.Native.Nat.{ℕ, ◌+◌, ◌-◌}
use mathlib.Core.Path.{◌≡◌, refl, ap}
use native.Mathlib.Omega.{arith}
use lib.ListN.{take, drop}
use Rattle.header.proofs.names.cut_out.Goals as goal

pub returns : goal.returns
returns c =
    let a = c.args in
    let p = a.p in
    let n : p.start.0 + p.length - p.start.0 ≡ p.length = omega arith in
    record { bytes = ap (λ (m : ℕ). take m (drop p.start.0 a.b.now)) n; place = refl }
