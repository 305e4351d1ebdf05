-- `taking::bodies::take_body` meets its contract: by its first field.
use mathlib.Core.Bool.{not}
use mathlib.Core.Path.{sym, ap, ◌∙◌}
use borrow.Author.Tests.{not-false, not-true}
use Rattle.paper.proofs.basics.Exits.{exit-same}
use Rattle.taking.proofs.Bodying.{body-bad, body-carried, body-misplaced}
use Rattle.taking.proofs.bodies.take_body.Goals as goal

pub returns-in_err-first : goal.returns-in_err-first
returns-in_err-first c =
    rw (exit-same c.from_residual.result c.from_residual.ensures.1)
    (body-bad c.args.strings c.args.s.now _ (rw c.in_err-first.was at c.take_field.ensures))

pub returns-then-not-stands : goal.returns-then-not-stands
returns-then-not-stands c =
    body-misplaced c.args.strings c.args.s.now (rw c.in_ok-first.was at c.take_field.ensures)
    (sym c.stands.ensures ∙ not-true c.stands.result (ap not c.if-not-stands.true))

pub returns : goal.returns
returns c =
    body-carried c.args.strings c.args.s.now (rw c.in_ok-first.was at c.take_field.ensures)
    (sym c.stands.ensures ∙ not-false c.stands.result (ap not c.if-not-stands.false)) c.carry.result c.carry.ensures
