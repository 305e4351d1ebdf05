-- `layout::sized::size_of` meets its contract: what the slice tells, as the cases of an answer.
use Rattle.sizes.proofs.Measured.{measures}
use Rattle.layout.proofs.sized.size_of.Goals as goal

pub returns : goal.returns
returns c = measures c.size_told.result _ c.size_told.ensures
