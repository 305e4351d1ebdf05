-- `values::signs::filled` meets its contract.
use mathlib.Core.Bool.{not}
use mathlib.Core.Path.{ap}
use Rattle.values.proofs.SignNumbers.{filled-zeros, filled-plus, filled-minus}
use Rattle.values.proofs.signs.filled.Goals as goal

pub returns-then-not-signed : goal.returns-then-not-signed
returns-then-not-signed c = let a = c.args in filled-zeros a.bits a.signed (ap not c.if-not-signed.true)

pub returns-then-n-bits-ne1 : goal.returns-then-n-bits-ne1
returns-then-n-bits-ne1 c = let a = c.args in filled-plus a.bits a.signed (ap not c.if-not-signed.false) c.if-n-bits-ne1.true

pub returns : goal.returns
returns c =
    let a = c.args in
    filled-minus a.n a.bits a.signed (ap not c.if-not-signed.false) c.if-n-bits-ne1.false c.ones-all.ensures
