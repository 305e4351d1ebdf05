-- `gate::whole::by_later` meets its contract: what phases 4 to 6 say is what is said at all.
use mathlib.Core.Path.{refl}
use Rattle.gate.proofs.ReadOnce.{read-accepted, read-judged}
use Rattle.paper.proofs.bytes.Bytes.{slice-bytes}
use Rattle.gate.proofs.whole.by_later.Goals as goal

pub returns-in-Ok : goal.returns-in-Ok
returns-in-Ok c =
    read-accepted _ _ _ c.requires (slice-bytes c.args.b.now c.shared_slice_known-1.given) _ refl c.order_of-order.ensures refl
    c.later.result c.later.ensures.says c.in-Ok.is

pub returns-in-Err : goal.returns-in-Err
returns-in-Err c =
    read-judged _ _ _ c.requires (slice-bytes c.args.b.now c.shared_slice_known-1.given) _ refl c.order_of-order.ensures refl
    c.later.result c.later.ensures.says c.in-Err.is c.clear.ensures
