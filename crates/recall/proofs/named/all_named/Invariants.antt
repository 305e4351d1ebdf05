use Prim.Native.Nat.{ℕ, ◌+◌, ◌*◌, ◌/◌}
use mathlib.Core.Path.{◌≡◌}
use Rattle.recall.proofs.NamedLeft.{Naming}
use Rattle.recall.proofs.named.all_named.Given as goal

-- so many words are left
abbrev pub invariant-loop-i : goal.invariant-loop-i
invariant-loop-i l = (left : ℕ) × (l.i + left / 2 ≡ l.n) × Naming l.order l.bytes (12 + 8 * l.i) left
