use Prim.Native.Nat.{ℕ, ◌+◌, ◌*◌, ◌/◌}
use mathlib.Core.Path.{◌≡◌}
use Rattle.glance.proofs.ParametersSeen.{Seeing}
use Rattle.glance.proofs.protos.parameters_seen.Given as goal

-- so many words are left
abbrev pub invariant-loop-i : goal.invariant-loop-i
invariant-loop-i l = (left : ℕ) × (l.i + left / 2 ≡ l.n) × Seeing l.work l.order l.bytes (12 + 8 * l.i) left
