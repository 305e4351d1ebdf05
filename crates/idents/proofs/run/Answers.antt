-- `idents::run` meets its contract: where the bytes stop passing, at once or by the long way, the run is what was left there.
use native.Mathlib.Omega.{arith}
use Rattle.idents.proofs.Passes.{left-run, past-before}
use Rattle.idents.proofs.run.Goals as goal

pub past-i-requires : goal.past-i-requires
past-i-requires c =
    let p = c.requires in
    (c.lower-near.ensures.most _ p.passing.ends (omega arith), c.lower-near.ensures.left)

pub returns-then-i-near : goal.returns-then-i-near
returns-then-i-near c =
    left-run 127
    (past-before c.past-i.ensures c.if-i-near.true (omega (arith, c.lower-near.ensures.right)))
    c.requires.names.no_zero
    c.ended.ensures

pub returns : goal.returns
returns c = left-run 127 c.long-end.ensures c.requires.names.no_zero c.ended-2.ensures
