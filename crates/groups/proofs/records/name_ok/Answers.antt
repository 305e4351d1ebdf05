-- `groups::records::name_ok` meets its contract: a name alone is asked for.
use Rattle.groups.proofs.Rows.{name-asked}
use Rattle.groups.proofs.records.name_ok.Goals as goal

pub returns-in-Name : goal.returns-in-Name
returns-in-Name c = name-asked _ _ c.in-Name.is
