-- `words::lay` meets its contract, for any place and piece.
use mathlib.Core.Path.{◌∙◌}
use native.Mathlib.Omega.{arith}
use Rattle.paper.proofs.bytes.Puts.{laid-fits, laid-short}
use Rattle.words.proofs.lay.Goals as goal

pub returns-then-out-at : goal.returns-then-out-at
returns-then-out-at c = laid-short _ _ _ (omega arith)

pub returns-then-out-at-2 : goal.returns-then-out-at-2
returns-then-out-at-2 c = laid-short _ _ _ (omega arith)

pub returns : goal.returns
returns c = c.copy.ensures ∙ laid-fits _ _ _ (omega arith)
