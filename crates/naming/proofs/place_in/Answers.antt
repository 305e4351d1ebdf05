-- `naming::place_in` meets its contract.
use Rattle.naming.proofs.NameRoles.{place-first, place-second}
use Rattle.naming.proofs.place_in.Goals as goal

pub returns-then-k-n : goal.returns-then-k-n
returns-then-k-n c = place-first _ c.if-k-n.true

pub returns : goal.returns
returns c = place-second _ c.if-k-n.false
