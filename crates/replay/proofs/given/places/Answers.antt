-- `replay::given::places` meets its contract: what is passed is the words so far.
use native.Mathlib.Omega.{arith}
use Rattle.replay.proofs.Words.{filling-start, filling-inside, filling-next, filling-end}
use Rattle.replay.proofs.given.places.Goals as goal

pub loop-i-init : goal.loop-i-init
loop-i-init c = filling-start c.requires

pub slice_bounds-read-count : goal.slice_bounds-read-count
slice_bounds-read-count c = omega (arith, filling-inside c.loop-i.invariant (omega (arith, c.loop-i-test.true)))

pub slice_bounds-read-start : goal.slice_bounds-read-start
slice_bounds-read-start c = omega (arith, filling-inside c.loop-i.invariant (omega (arith, c.loop-i-test.true)))

pub loop-i-preserved : goal.loop-i-preserved
loop-i-preserved c = filling-next c.loop-i.invariant (omega (arith, c.loop-i-test.true)) c.read.ensures

pub returns : goal.returns
returns c = filling-end c.loop-i.invariant (omega (arith, c.loop-i-test.false))
