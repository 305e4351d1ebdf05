-- `lean::checks::answer` meets its contract: a refused base, another order, then what stands behind the base.
use mathlib.Core.Path.{ap, ◌∙◌}
use Rattle.std.specs.Prelude.{Err}
use Rattle.paper.specs.declared.LeanError.{LeanError}
use Rattle.paper.proofs.basics.Exits.{exit-same, mapped-err, mapped-ok}
use Rattle.lean.proofs.Leans.{base-refused, orders-differ, after-base, base_kept, answer-kept}
use Rattle.paper.proofs.bytes.Bytes.{slice-bytes}
use Rattle.paper.specs.rules.Gate.{zeros}
use Rattle.lean.proofs.checks.answer.Goals as goal

pub returns-then-other_opening : goal.returns-then-other_opening
returns-then-other_opening c =
    orders-differ c.args.base.now c.args.own.now _ _ c.check.ensures (mapped-ok _ c.check.result c.map_err.ensures.cases c.in_ok-n.was) c.other_opening.ensures c.if-other_opening.true
    (c.clear.ensures ∙ ap zeros c.check.auto.index)

pub behind-requires : goal.behind-requires
behind-requires c =
    base_kept c.check.auto.index c.check.auto.work
    (after-base c.args.base.now c.args.own.now _ _ c.check.ensures (mapped-ok _ c.check.result c.map_err.ensures.cases c.in_ok-n.was)
    (slice-bytes c.args.base.now c.shared_slice_known-1.given) c.other_opening.ensures c.if-other_opening.false)

pub returns-in_err-n : goal.returns-in_err-n
returns-in_err-n c =
    let (r, is, same) = mapped-err _ c.check.result c.map_err.ensures.cases c.in_err-n.was in
    rw (exit-same c.from_residual.result c.from_residual.ensures.1 ∙ ap (λ (l : LeanError). Err l) same)
    (base-refused c.args.base.now c.args.own.now _ _ c.check.ensures is)

pub returns : goal.returns
returns c = answer-kept c.check.auto.index c.check.auto.work c.behind.ensures
