use Prim.Native.Nat.{ℕ, ◌+◌, ◌*◌}
use mathlib.Core.List.{[]}
use mathlib.Core.Path.{◌≡◌}
use Rattle.groups.proofs.Walks.{Entering}
use Rattle.views.specs.Shown.{table_by}
use Rattle.groups.proofs.walk.judge_entries.Given as goal

-- so many are left
abbrev pub invariant-loop-i : goal.invariant-loop-i
invariant-loop-i l =
    (left : ℕ) × (l.i + left ≡ l.count) × Entering (table_by [] l.b l.index l.view) l.strings l.s l.sort l.size l.count l.at (l.at + l.i * l.size) left
