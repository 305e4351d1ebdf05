-- `lean::checks::behind` meets its contract: what `scan_behind` refuses is refused, and what it counts is judged over both.
use mathlib.Core.Path.{refl, ap, ◌∙◌}
use native.Mathlib.Omega.{arith}
use Rattle.std.specs.Prelude.{Err}
use Rattle.paper.specs.declared.LeanError.{LeanError}
use Rattle.paper.proofs.basics.Exits.{exit-same, mapped-err, mapped-ok}
use Rattle.lean.proofs.Leans.{few, scan-refused, pair-accepted, pair-refused}
use Rattle.paper.proofs.bytes.Bytes.{slice-bytes}
use Rattle.paper.specs.rules.Gate.{zeros}
use Rattle.lean.proofs.checks.behind.Goals as goal

pub overflow_cast-before : goal.overflow_cast-before
overflow_cast-before c = omega (arith, few c.args.base.now c.args.own.now _ _ c.requires)

pub returns-in_err-m : goal.returns-in_err-m
returns-in_err-m c =
    let (r, is, same) = mapped-err _ c.scan_behind.result c.map_err.ensures.cases c.in_err-m.was in
    rw (exit-same c.from_residual.result c.from_residual.ensures.1 ∙ ap (λ (l : LeanError). Err l) same)
    (scan-refused c.args.base.now c.args.own.now _ _ c.requires c.scan_behind.result c.scan_behind.ensures refl is)

pub returns-in-Ok : goal.returns-in-Ok
returns-in-Ok c =
    pair-accepted c.args.base.now c.args.own.now _ _ c.requires c.scan_behind.result c.scan_behind.ensures refl (mapped-ok _ c.scan_behind.result c.map_err.ensures.cases c.in_ok-m.was)
    (slice-bytes c.args.own.now c.shared_slice_known-2-1.given) _ refl c.order_of-order.ensures refl c.judge.result
    c.judge.ensures.says c.in-Ok.is

pub returns-in-Err : goal.returns-in-Err
returns-in-Err c =
    pair-refused c.args.base.now c.args.own.now _ _ c.requires c.scan_behind.result c.scan_behind.ensures refl (mapped-ok _ c.scan_behind.result c.map_err.ensures.cases c.in_ok-m.was)
    (slice-bytes c.args.own.now c.shared_slice_known-2-1.given) _ refl c.order_of-order.ensures refl c.judge.result
    c.judge.ensures.says c.in-Err.is (c.clear.ensures ∙ ap zeros c.scan_behind.auto.index)
