-- `split::parts_of::write_first` meets its contract: the piece in front of the cut, raised by nothing.
use mathlib.Core.Path.{refl}
use Rattle.split.proofs.TwoParts.{first-ask, first-written}
use Rattle.split.proofs.parts_of.write_first.Goals as goal

pub write_part-requires : goal.write_part-requires
write_part-requires c = first-ask c.requires.0 c.blob_word.ensures c.requires.1

pub returns : goal.returns
returns c = first-written c.requires.0 c.blob_word.ensures _ c.order_of-order.ensures refl refl c.write_part.ensures
