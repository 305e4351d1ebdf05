-- `replay::leaning::name_over` meets its contract: the part is the name, and no longer than a blob may be.
use mathlib.Core.Path.{ap}
use native.Mathlib.Omega.{arith}
use lib.ListN.{length}
use Rattle.lean.proofs.Askings.{name_at_over-short}
use Rattle.replay.proofs.Overs.{name-over-seen}
use Rattle.replay.proofs.leaning.name_over.Goals as goal

pub overflow_cast-p : goal.overflow_cast-p
overflow_cast-p c =
    let a = c.args in
    omega (arith, name_at_over-short a.a.now a.b.now a.h.x, ap length c.name_leaning-part.ensures.bytes)

pub returns : goal.returns
returns c =
    let a = c.args in
    name-over-seen a.a.now a.b.now a.h.x c.seen.ensures c.of_bytes.ensures c.name_leaning-part.ensures.bytes
    c.plain.ensures
