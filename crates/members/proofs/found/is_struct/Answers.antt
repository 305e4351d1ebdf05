-- `members::found::is_struct` meets its contract.
use Rattle.members.proofs.Seeking.{struct-first, struct-second}
use Rattle.members.proofs.found.is_struct.Goals as goal

pub returns-then-kind-eq-STRUCT : goal.returns-then-kind-eq-STRUCT
returns-then-kind-eq-STRUCT c = struct-first _ c.if-kind-eq-STRUCT.true

pub returns : goal.returns
returns c = struct-second _ c.if-kind-eq-STRUCT.false
