-- `groups::records::types_ok` meets its contract: the three words behind the instruction offset.
use Rattle.groups.proofs.Rows.{each_three}
use Rattle.groups.proofs.records.types_ok.Goals as goal

pub returns : goal.returns
returns c = each_three c.type_ok.ensures c.type_ok-2.ensures c.type_ok-3.ensures
