-- `replay::ops::name_lent` meets its contract: the part is the name, and its length fits.
use mathlib.Core.Path.{sym, ap}
use mathlib.Core.Bool.{Bool, cond}
use native.Mathlib.Omega.{arith}
use lib.ListN.{length}
use Rattle.replay.proofs.Parts.{name_at-short}
use Rattle.replay.proofs.Runs.{name-seen}
use Rattle.replay.proofs.ops.name_lent.Goals as goal

pub overflow_cast-p : goal.overflow_cast-p
overflow_cast-p c = omega (arith, c.requires, name_at-short c.args.a.now c.args.h.x, ap length c.name-part.ensures.bytes)

pub returns-then-nameless : goal.returns-then-nameless
returns-then-nameless c =
    let h = c.args in
    name-seen h.a.now h.h.x h.h.index h.h.work c.seen.ensures c.places_lent-index.ensures c.places_lent-work.ensures c.of_bytes-output.ensures
    c.name-part.ensures.bytes
    c.nameless.ensures (sym (ap (λ (t : Bool). cond t 1 0) c.if-nameless.true)) c.plain.ensures

pub returns : goal.returns
returns c =
    let h = c.args in
    name-seen h.a.now h.h.x h.h.index h.h.work c.seen-2.ensures c.places_lent-index.ensures c.places_lent-work.ensures c.of_bytes-output.ensures
    c.name-part.ensures.bytes
    c.nameless.ensures (sym (ap (λ (t : Bool). cond t 1 0) c.if-nameless.false)) c.plain-2.ensures
