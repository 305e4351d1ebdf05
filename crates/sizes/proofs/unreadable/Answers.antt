-- `sizes::unreadable` meets its contract.
use mathlib.Core.Bool.{not}
use mathlib.Core.Path.{ap}
use Rattle.sizes.proofs.SizeSteps.{readable-unknown, readable-other, readable-array}
use Rattle.sizes.proofs.unreadable.Goals as goal

pub returns-then-not-is_known : goal.returns-then-not-is_known
returns-then-not-is_known c = readable-unknown _ _ c.is_known.ensures (ap not c.if-not-is_known.true)

pub returns-then-kind-ne-ARRAY : goal.returns-then-kind-ne-ARRAY
returns-then-kind-ne-ARRAY c = readable-other _ _ c.is_known.ensures (ap not c.if-not-is_known.false) c.if-kind-ne-ARRAY.true

pub returns : goal.returns
returns c = readable-array _ _ c.is_known.ensures (ap not c.if-not-is_known.false) c.if-kind-ne-ARRAY.false
