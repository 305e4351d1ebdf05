use Prim.Native.Nat.{ℕ, ◌+◌, ◌*◌, ◌/◌}
use mathlib.Core.Path.{◌≡◌}
use Rattle.paper.specs.terms.Reading.{record_in}
use Rattle.layout.specs.Told.{recalled}
use Rattle.layout.proofs.MembersLeft.{Laying}
use Rattle.layout.proofs.members.members_ok.Given as goal

-- so many words are left
abbrev pub invariant-loop-i : goal.invariant-loop-i
invariant-loop-i l = (left : ℕ) × (l.i + left / 3 ≡ l.n) × Laying (recalled l.base l.b l.index l.view l.memo) (record_in l.view.order l.bytes) l.view.order l.bytes (12 + 12 * l.i) left l.before
