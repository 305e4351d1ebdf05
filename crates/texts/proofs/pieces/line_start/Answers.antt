-- `texts::pieces::line_start` meets its contract. The loop's invariant: what is left of the lines is behind the place.
use native.Mathlib.Omega.{arith}
use Rattle.texts.proofs.Passed.{skipping-start, skipping-newline, skipping-last, skipping-done}
use Rattle.texts.proofs.pieces.line_start.Goals as goal
use Rattle.texts.proofs.pieces.line_start.Goals.{then-at-s, else-at-s}

pub loop-init : goal.loop-init
loop-init c = skipping-start _ _

pub loop-preserved : goal.loop-preserved
loop-preserved c =
    let inv = c.loop.invariant in
    let end = c.line_end-at.ensures in
    elim c.if-at-s.branch [
      | then-at-s w ↦ skipping-newline inv (omega arith) end w.if-at-s.true w.at-is
      | else-at-s w ↦ skipping-last inv (omega arith) end w.if-at-s.false w.at-is
    ]

pub returns : goal.returns
returns c = skipping-done c.loop.invariant (omega arith)
