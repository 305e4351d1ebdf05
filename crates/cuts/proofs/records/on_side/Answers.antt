-- `cuts::records::on_side` meets its contract.
use mathlib.Core.Bool.{not}
use mathlib.Core.Path.{ap}
use Rattle.cuts.proofs.Roles.{sided-zero}
use Rattle.cuts.proofs.records.on_side.Goals as goal

pub returns-else-not-behind : goal.returns-else-not-behind
returns-else-not-behind c =
    let a = c.args in
    sided-zero a.behind a.below a.w c.if-below.true (ap not c.if-not-behind.false)
