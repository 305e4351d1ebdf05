-- `spans::bases::base_record` meets its contract: its own base, or what the aliases lead to.
use mathlib.Core.Bool.{not}
use mathlib.Core.Path.{ap}
use Rattle.rows.proofs.RecordWords.{kind-read}
use Rattle.spans.proofs.Leads.{base-own}
use Rattle.spans.proofs.bases.base_record.Goals as goal

pub returns-then-not-is_alias : goal.returns-then-not-is_alias
returns-then-not-is_alias c =
    let own = c.record_of-own.ensures.shows in
    base-own _ _ (kind-read _ _ own c.read.ensures c.kind_of.ensures) c.is_alias.ensures (ap not c.if-not-is_alias.true) own
