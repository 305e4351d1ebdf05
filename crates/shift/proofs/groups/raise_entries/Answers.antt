-- `shift::groups::raise_entries` meets its contract: an entry behind the other, as many as are left.
use Prim.Native.Nat.{◌+◌, ◌*◌}
use mathlib.Core.Path.{◌≡◌}
use native.Mathlib.Omega.{arith}
use Rattle.shift.proofs.Entries.{entering-start, entering-done, entering-ask, entering-next}
use Rattle.shift.proofs.groups.raise_entries.Goals as goal

pub overflow_mul-step : goal.overflow_mul-step
overflow_mul-step c = omega (arith, c.requires.few)

pub loop-i-init : goal.loop-i-init
loop-i-init c =
    let first : c.args.at.0 + 4 * c.args.g.words * 0 ≡ c.args.at.0 = omega arith in
    (_, omega arith, entering-start c.requires first)

pub overflow_mul-p : goal.overflow_mul-p
overflow_mul-p c =
    let a = entering-ask c.requires c.loop-i.invariant.2 (omega arith) in
    omega (arith, a.fits, a.small)

pub overflow_add-p : goal.overflow_add-p
overflow_add-p c =
    let a = entering-ask c.requires c.loop-i.invariant.2 (omega arith) in
    omega (arith, a.fits, a.small)

pub raise_group-requires : goal.raise_group-requires
raise_group-requires c = entering-ask c.requires c.loop-i.invariant.2 (omega arith)

pub loop-i-preserved : goal.loop-i-preserved
loop-i-preserved c =
    let next : c.args.at.0 + 4 * c.args.g.words * c.loop-i.i + 4 * c.args.g.words ≡ c.args.at.0 + 4 * c.args.g.words * (c.loop-i.i + 1) = omega arith in
    (_, omega arith, rw next at (entering-next c.requires c.loop-i.invariant.2 (omega arith) c.raise_group.auto.out c.raise_group.ensures))

pub returns : goal.returns
returns c = entering-done c.requires c.loop-i.invariant.2 (omega arith)
