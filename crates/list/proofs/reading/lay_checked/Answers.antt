-- `list::reading::lay_checked` meets its contract: what is checked is what was laid.
use Rattle.list.proofs.Readings.{laid-checked}
use Rattle.list.proofs.reading.lay_checked.Goals as goal

pub returns : goal.returns
returns c = laid-checked c.put_table.ensures c.check.ensures
