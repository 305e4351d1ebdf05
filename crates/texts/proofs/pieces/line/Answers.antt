-- `texts::pieces::line` meets its contract: the part of the text from the line's start to its end, at its very place.
use Prim.Native.Nat.{ℕ, ◌+◌}
use mathlib.Core.Path.{ap}
use Rattle.texts.proofs.Passed.{line-bytes, line-place}
use Rattle.texts.proofs.pieces.line.Goals as goal

pub returns : goal.returns
returns c =
    let start = c.line_start-from.ensures in
    let end = c.line_end-end.ensures in
    let s = c.args.s in
    record {
      bytes = line-bytes start end;
      place = ap {B = ℕ × ℕ} (λ (n : ℕ). (s.ref_ptr.0, n + s.ref_ptr.1)) (line-place start end);
    }
