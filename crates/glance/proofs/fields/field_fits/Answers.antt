-- `glance::fields::field_fits` meets its contract.
use mathlib.Core.Bool.{not}
use mathlib.Core.Path.{ap}
use mathlib.Core.Bool.{false≢true}
use Rattle.glance.proofs.FieldsLeft.{field-whole, field-bits}
use Rattle.glance.proofs.fields.field_fits.Goals as goal

pub returns-then-w-eq0 : goal.returns-then-w-eq0
returns-then-w-eq0 c =
    let a = c.args in
    field-whole a.s a.from a.z a.w c.if-w-eq0.true c.whole_fits.ensures

pub returns-then-not-is_number : goal.returns-then-not-is_number
returns-then-not-is_number c = λ e. absurd (false≢true e)

pub returns-then-s-w : goal.returns-then-s-w
returns-then-s-w c = λ e. absurd (false≢true e)

pub returns : goal.returns
returns c =
    let a = c.args in
    field-bits a.s a.from a.z a.w c.if-w-eq0.false c.is_number.ensures (ap not c.if-not-is_number.false) c.if-s-w.false
