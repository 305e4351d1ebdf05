-- `list::reading::read` meets its contract: what is read where both slices are clear, and the lent bytes cleared.
use lib.ListN.{length}
use Rattle.list.proofs.Readings.{cleared-long, look-lengths, read_whole}
use Rattle.list.proofs.reading.read.Goals as goal

pub read_cleared-r-requires : goal.read_cleared-r-requires
read_cleared-r-requires c = (cleared-long (length c.args.index.now) c.clear.ensures, cleared-long (length c.args.work.now) c.clear-2.ensures)

pub returns : goal.returns
returns c = read_whole (look-lengths c.clear.auto.s c.clear-2.auto.s c.read_cleared-r.ensures) c.read_cleared-r.auto.bytes c.blank.ensures
