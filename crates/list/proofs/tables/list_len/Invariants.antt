use Prim.Native.Nat.{◌-◌}
use mathlib.Core.Path.{◌≡◌}
use Rattle.list.proofs.Walking.{Walking}
use Rattle.paper.specs.rules.Header.{order_of}
use Rattle.list.proofs.tables.list_len.Given as goal

abbrev pub invariant-loop-p : goal.invariant-loop-p
invariant-loop-p l = (l.order ≡ order_of l.b) × Walking l.b l.end l.p l.total

abbrev pub decreases-loop-p : goal.decreases-loop-p
decreases-loop-p l = l.end - l.p
