-- `texts::pieces::first_of` meets its contract: all of the bytes, or the part that ends behind the first so many.
use mathlib.Core.Path.{refl, sym}
use lib.Seq.{length-take-le, take_all}
use native.Mathlib.Omega.{arith}
use Rattle.texts.proofs.pieces.first_of.Goals as goal

pub returns-then-s-n : goal.returns-then-s-n
returns-then-s-n c =
    let a = c.args in
    record { bytes = sym (take_all a.n a.s.now (omega (arith, c.if-s-n.true))); place = refl }

pub slice_bounds-result-end : goal.slice_bounds-result-end
slice_bounds-result-end c = sym (length-take-le _ _ (omega arith))
