-- `glance::looks::fits` meets its contract.
use mathlib.Core.Bool.{not}
use mathlib.Core.Path.{ap}
use Rattle.glance.proofs.Looking.{fits_not, fits-ends}
use Rattle.glance.proofs.looks.fits.Goals as goal

pub returns-then-not-starts : goal.returns-then-not-starts
returns-then-not-starts c =
    let a = c.args in
    fits_not a.s a.offset a.z c.starts.ensures (ap not c.if-not-starts.true)

pub returns : goal.returns
returns c =
    let a = c.args in
    fits-ends a.s a.offset a.z c.starts.ensures (ap not c.if-not-starts.false)
