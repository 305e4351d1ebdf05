-- `groups::front::opens_as` meets its contract, byte by byte.
use Rattle.groups.proofs.Headers.{opens-short, opens-alike}
use Rattle.groups.proofs.front.opens_as.Goals as goal

pub returns-then-opening-lt4 : goal.returns-then-opening-lt4
returns-then-opening-lt4 c =
    let a = c.args in
    opens-short a.s.now a.opening.now c.requires c.if-opening-lt4.true

pub returns : goal.returns
returns c =
    let a = c.args in
    opens-alike a.s.now a.opening.now c.requires c.if-opening-lt4.false
