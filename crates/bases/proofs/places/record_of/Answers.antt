-- `bases::places::record_of` meets its contract.
use mathlib.Core.Path.{◌∙◌}
use native.Mathlib.Omega.{arith}
use Rattle.bases.proofs.Follows.{rest_at, place-past, place_inside}
use Rattle.bases.proofs.places.record_of.Goals as goal

pub returns-then-index-k : goal.returns-then-index-k
returns-then-index-k c = rest_at (place-past _ _ _ (omega arith)) c.rest_from.ensures

pub returns : goal.returns
returns c = rest_at (c.wide.ensures ∙ place_inside _ _ _ (omega arith)) c.rest_from-2.ensures
