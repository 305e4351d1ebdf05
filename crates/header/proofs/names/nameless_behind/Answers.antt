-- `header::names::nameless_behind` meets its contract, by what phase 1 finds.
use mathlib.Core.Path.{◌∙◌}
use Rattle.header.proofs.Scans.{nameless-behind}
use Rattle.header.proofs.names.nameless_behind.Goals as goal

pub returns : goal.returns
returns c = c.nameless_by.ensures ∙ nameless-behind c.read_behind.result _ _ _ c.read_behind.ensures
