-- `header::names::nameless` meets its contract, by what phase 1 finds.
use mathlib.Core.Path.{◌∙◌}
use Rattle.header.proofs.Scans.{nameless-alone}
use Rattle.header.proofs.names.nameless.Goals as goal

pub returns : goal.returns
returns c = c.nameless_by.ensures ∙ nameless-alone c.read.result _ _ c.read.ensures
