-- `words::copy` meets its contract: the bytes passed are the piece's, the others as they were.
use native.Mathlib.Omega.{arith}
use Rattle.paper.proofs.bytes.Puts.{copying-start, copying-next, copying-done}
use Rattle.words.proofs.copy.Goals as goal

pub loop-i-init : goal.loop-i-init
loop-i-init c = copying-start _ _ _

pub loop-i-preserved : goal.loop-i-preserved
loop-i-preserved c = copying-next c.loop-i.invariant c.requires (omega arith)

pub returns : goal.returns
returns c = copying-done c.loop-i.invariant (omega arith)
