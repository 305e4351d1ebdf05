-- `groups::records::names_ok` meets its contract: the three words behind the instruction offset.
use Rattle.groups.proofs.Rows.{each_three}
use Rattle.groups.proofs.records.names_ok.Goals as goal

pub returns : goal.returns
returns c = each_three c.name_ok.ensures c.name_ok-2.ensures c.name_ok-3.ensures
