-- `handed::spans::place` meets its contract.
use mathlib.Core.Path.{sym}
use lib.ListN.{get_or-eq_default}
use Rattle.handed.proofs.spans.place.Goals as goal

pub returns-then-s-i : goal.returns-then-s-i
returns-then-s-i c = sym (get_or-eq_default c.args.s.now 0 c.if-s-i.true)
