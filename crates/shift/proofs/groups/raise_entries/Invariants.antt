use Prim.Native.Nat.{ℕ, ◌+◌, ◌*◌}
use mathlib.Core.Path.{◌≡◌}
use Rattle.shift.proofs.Entries.{Entering}
use Rattle.shift.proofs.groups.raise_entries.Given as goal

-- so many are left
abbrev pub invariant-loop-i : goal.invariant-loop-i
invariant-loop-i l = (left : ℕ) × (l.i + left ≡ l.v) × Entering l.by l.g l.bytes l.v l.at.0 l.initial.out (l.at.0 + l.step * l.i) left l.out
