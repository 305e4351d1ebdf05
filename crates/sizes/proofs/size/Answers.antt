-- `sizes::size` meets its contract: a table that stands by itself leans on a base of no types.
use mathlib.Core.Path.{◌∙◌}
use Rattle.sizes.proofs.Overs.{size_over-alone}
use Rattle.sizes.proofs.size.Goals as goal

pub returns : goal.returns
returns c = c.size_over.ensures ∙ size_over-alone _ _ _ _
