-- `idents::sixteen` meets its contract: so many bytes are an identifier's, if the answer stays true.
use Prim.Native.Nat.{◌+◌}
use mathlib.Core.Path.{◌≡◌, refl}
use native.Mathlib.Omega.{arith}
use Rattle.idents.proofs.Passes.{surely-start, surely-next}
use Rattle.idents.proofs.sixteen.Goals as goal

pub loop-i-init : goal.loop-i-init
loop-i-init c = surely-start refl (omega arith)

pub loop-i-preserved : goal.loop-i-preserved
loop-i-preserved c = surely-next c.loop-i.invariant (omega arith) (omega arith) c.is_word-all.ensures

pub returns : goal.returns
returns c =
    let full : c.loop-i.i ≡ c.args.from + 16 = omega arith in
    rw full at c.loop-i.invariant
