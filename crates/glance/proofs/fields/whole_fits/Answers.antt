-- `glance::fields::whole_fits` meets its contract.
use mathlib.Core.Bool.{not}
use mathlib.Core.Path.{ap}
use mathlib.Core.Bool.{false≢true}
use Rattle.glance.proofs.FieldsLeft.{whole-lies}
use Rattle.glance.proofs.fields.whole_fits.Goals as goal

pub returns-then-not-is_sized : goal.returns-then-not-is_sized
returns-then-not-is_sized c = λ e. absurd (false≢true e)

pub returns-then-from-ne0 : goal.returns-then-from-ne0
returns-then-from-ne0 c = λ e. absurd (false≢true e)

pub returns : goal.returns
returns c =
    let a = c.args in
    whole-lies a.s a.from a.z c.is_sized.ensures (ap not c.if-not-is_sized.false) c.if-from-ne0.false
