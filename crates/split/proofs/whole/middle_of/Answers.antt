-- `split::whole::middle_of` meets its contract: the end of the records, or the place of the next.
use mathlib.Core.Path.{refl}
use native.Mathlib.Omega.{arith}
use Rattle.split.proofs.Aparts.{middle-fits, middle-end, middle-next}
use Rattle.split.proofs.whole.middle_of.Goals as goal

pub overflow_add-result : goal.overflow_add-result
overflow_add-result c = omega (arith, middle-fits c.requires.0 c.args.view refl c.blob_word.ensures)

pub returns-then-n-t : goal.returns-then-n-t
returns-then-n-t c = middle-end c.requires.0 c.args.view refl c.args.last.0 c.if-n-t.true c.blob_word.ensures

pub returns : goal.returns
returns c = middle-next c.requires.0 c.args.view refl c.args.last.0 c.if-n-t.false c.place_of.ensures
