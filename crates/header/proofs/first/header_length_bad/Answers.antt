-- `header::first::header_length_bad` meets its contract: report 3.
use Prim.Native.Nat.{ℕ}
use mathlib.Core.Path.{ap}
use Rattle.paper.specs.rules.Choice.{differ}
use Rattle.paper.specs.rules.Header.{header_length_bad}
use Rattle.header.proofs.first.header_length_bad.Goals as goal

pub returns : goal.returns
unfolding header_length_bad
returns c = ap (λ (w : ℕ). differ w 24) c.blob_word.ensures
