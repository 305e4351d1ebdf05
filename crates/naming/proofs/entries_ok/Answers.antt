-- `naming::entries_ok` meets its contract: what is left of the entries has the names that all have.
use mathlib.Core.Bool.{not}
use mathlib.Core.Path.{refl, ap, ◌∙◌}
use native.Mathlib.Omega.{arith}
use Rattle.paper.specs.rules.Kind.{row_of}
use Rattle.rows.proofs.RoleCodes.{each-few}
use Rattle.rows.proofs.ByRole.{three-codes, entering-start, entering-done, entering-bad, entering-next, entry-near}
use Rattle.naming.proofs.entries_ok.Goals as goal

pub overflow_mul-step : goal.overflow_mul-step
overflow_mul-step c = omega (arith, c.entry_words-step.ensures, each-few c.args.kind)

pub loop-i-init : goal.loop-i-init
loop-i-init c = entering-start (omega arith)

pub overflow_mul-p : goal.overflow_mul-p
overflow_mul-p c = omega (arith, entry-near _ c.loop-i.i (row_of c.args.kind).each c.entry_words-step.ensures (each-few c.args.kind) (omega arith))

pub overflow_add-p : goal.overflow_add-p
overflow_add-p c = omega (arith, entry-near _ c.loop-i.i (row_of c.args.kind).each c.entry_words-step.ensures (each-few c.args.kind) (omega arith))

pub three_ok-requires : goal.three_ok-requires
three_ok-requires c = omega (arith, entry-near _ c.loop-i.i (row_of c.args.kind).each c.entry_words-step.ensures (each-few c.args.kind) (omega arith))

pub returns-then-not-three_ok : goal.returns-then-not-three_ok
returns-then-not-three_ok c = entering-bad c.loop-i.invariant (omega arith)
    (c.three_ok.ensures
    ∙ three-codes _ _ _ (λ w. refl) _ _ (each-few c.args.kind) c.entry_role-r0.ensures c.entry_role-r1.ensures c.entry_role-r2.ensures)
    (ap not c.if-not-three_ok.true)

pub loop-i-preserved : goal.loop-i-preserved
loop-i-preserved c =
    entering-next c.loop-i.invariant (omega arith)
    (c.three_ok.ensures
    ∙ three-codes _ _ _ (λ w. refl) _ _ (each-few c.args.kind) c.entry_role-r0.ensures c.entry_role-r1.ensures c.entry_role-r2.ensures)
    (ap not c.if-not-three_ok.false) c.entry_words-step.ensures (omega arith)

pub returns : goal.returns
returns c = entering-done c.loop-i.invariant (omega arith)
