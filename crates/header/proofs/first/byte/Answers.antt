-- `header::first::byte` meets its contract: the byte inside, 0 outside.
use mathlib.Core.Path.{sym}
use lib.ListN.{get_or-eq_default}
use Rattle.header.proofs.first.byte.Goals as goal

pub returns : goal.returns
returns c = sym (get_or-eq_default c.args.b.now 0 c.if-at-b.false)
