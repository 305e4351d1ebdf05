-- `glance::looks::group` meets its contract.
use mathlib.Core.Bool.{not}
use mathlib.Core.Path.{ap}
use mathlib.Core.Logic.{inr}
use mathlib.Core.Path.{refl, sym, ◌∙◌}
use Rattle.rows.proofs.RecordWords.{flag-read}
use Rattle.glance.proofs.FieldsLeft.{flag_one}
use Rattle.glance.proofs.Looking.{group-waits, looks-awaits, looks-group}
use Rattle.glance.proofs.looks.group.Goals as goal

pub fields-requires : goal.fields-requires
fields-requires c = (
  c.requires,
  sym (flag-read _ _ refl c.read.ensures c.flag_of.ensures) ∙ flag_one _ c.flag_of.ensures c.if-flag_of-ne0.true,
)

pub returns-then-flag_of-ne0 : goal.returns-then-flag_of-ne0
returns-then-flag_of-ne0 c = c.fields.ensures

pub members_fit-requires : goal.members_fit-requires
members_fit-requires c = sym (flag-read _ _ refl c.read.ensures c.flag_of.ensures) ∙ c.if-flag_of-ne0.false

pub returns-then-not-members_fit : goal.returns-then-not-members_fit
returns-then-not-members_fit c = inr (looks-awaits _ _ _ (group-waits c.requires))

pub returns : goal.returns
returns c =
    looks-group _ _ _ c.requires (sym (flag-read _ _ refl c.read.ensures c.flag_of.ensures) ∙ c.if-flag_of-ne0.false)
    c.members_fit.ensures (ap not c.if-not-members_fit.false) c.read-2.ensures c.whole_bytes.ensures
