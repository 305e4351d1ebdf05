-- `idents::long` meets its contract: the bytes that passed, those of the rows of sixteen, and those behind them are one run.
use native.Mathlib.Omega.{arith}
use Rattle.idents.proofs.Passes.{passing-join, passing-wider, past-on}
use Rattle.idents.proofs.long.Goals as goal

pub ahead-next-requires : goal.ahead-next-requires
ahead-next-requires c =
    let p = c.requires in
    (c.lower-to.ensures.most _ p.passing.ends (omega (arith, p.short)), c.lower-to.ensures.left)

pub returns : goal.returns
returns c =
    let p = c.requires in
    past-on
    (passing-join p.passing (passing-wider p.names.words c.ahead-next.ensures.0))
    c.lower-to.ensures
    (omega arith)
    c.past.ensures
