-- `glance::fields::fields` meets its contract.
use mathlib.Core.Bool.{not}
use mathlib.Core.Path.{ap}
use mathlib.Core.Logic.{inr}
use Rattle.glance.proofs.FieldsLeft.{looks-fields}
use Rattle.glance.proofs.Looking.{group-waits, looks-awaits}
use Rattle.glance.proofs.fields.fields.Goals as goal

pub returns-then-not-fields_fit : goal.returns-then-not-fields_fit
returns-then-not-fields_fit c = inr (looks-awaits _ _ _ (group-waits c.requires.0))

pub returns : goal.returns
returns c =
    let pre = c.requires in
    looks-fields _ _ _ pre.0 pre.1 c.fields_fit.ensures (ap not c.if-not-fields_fit.false) c.read.ensures c.whole_bytes.ensures
