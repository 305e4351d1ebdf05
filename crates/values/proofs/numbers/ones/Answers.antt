-- `values::numbers::ones` meets its contract.
use Rattle.values.proofs.Windows.{ones_cut}
use Rattle.values.proofs.numbers.ones.Goals as goal

pub returns : goal.returns
returns c = ones_cut c.requires.1
