-- `naming::inside` meets its contract: below the length of both, by the section that it would lie in.
use Rattle.naming.proofs.OptionalNames.{inside-first, inside-second}
use Rattle.naming.proofs.inside.Goals as goal

pub returns-then-k-n : goal.returns-then-k-n
returns-then-k-n c = let a = c.args in inside-first a.base.now a.strings.now a.off.0 c.if-k-n.true

pub returns : goal.returns
returns c = let a = c.args in inside-second a.base.now a.strings.now a.off.0 c.if-k-n.false
