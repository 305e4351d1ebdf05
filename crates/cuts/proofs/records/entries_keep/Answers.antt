-- `cuts::records::entries_keep` meets its contract: what is left of the entries keeps to its side where all do.
use mathlib.Core.Bool.{not}
use mathlib.Core.Path.{ap, ◌∙◌}
use native.Mathlib.Omega.{arith}
use Rattle.paper.specs.rules.Kind.{row_of}
use Rattle.rows.proofs.RoleCodes.{each-few}
use Rattle.cuts.proofs.Roles.{number-passes}
use Rattle.rows.proofs.ByRole.{three-codes, entering-start, entering-done, entering-bad, entering-next, entry-near}
use Rattle.cuts.proofs.records.entries_keep.Goals as goal

pub overflow_mul-step : goal.overflow_mul-step
overflow_mul-step c = omega (arith, c.entry_words-step.ensures, each-few c.args.kind)

pub loop-i-init : goal.loop-i-init
loop-i-init c = entering-start (omega arith)

pub overflow_mul-p : goal.overflow_mul-p
overflow_mul-p c = omega (arith, entry-near _ c.loop-i.i (row_of c.args.kind).each c.entry_words-step.ensures (each-few c.args.kind) (omega arith))

pub overflow_add-p : goal.overflow_add-p
overflow_add-p c = omega (arith, entry-near _ c.loop-i.i (row_of c.args.kind).each c.entry_words-step.ensures (each-few c.args.kind) (omega arith))

pub three_keep-requires : goal.three_keep-requires
three_keep-requires c = omega (arith, entry-near _ c.loop-i.i (row_of c.args.kind).each c.entry_words-step.ensures (each-few c.args.kind) (omega arith))

pub returns-then-not-three_keep : goal.returns-then-not-three_keep
returns-then-not-three_keep c = entering-bad c.loop-i.invariant (omega arith)
    (c.three_keep.ensures
    ∙ three-codes _ _ _ (number-passes c.args.cut) _ _ (each-few c.args.kind) c.entry_role-r0.ensures c.entry_role-r1.ensures c.entry_role-r2.ensures)
    (ap not c.if-not-three_keep.true)

pub loop-i-preserved : goal.loop-i-preserved
loop-i-preserved c =
    entering-next c.loop-i.invariant (omega arith)
    (c.three_keep.ensures
    ∙ three-codes _ _ _ (number-passes c.args.cut) _ _ (each-few c.args.kind) c.entry_role-r0.ensures c.entry_role-r1.ensures c.entry_role-r2.ensures)
    (ap not c.if-not-three_keep.false) c.entry_words-step.ensures (omega arith)

pub returns : goal.returns
returns c = entering-done c.loop-i.invariant c.loop-i-test.false
