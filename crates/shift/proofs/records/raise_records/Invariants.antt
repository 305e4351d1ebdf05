use Prim.Native.Nat.{ℕ, ◌+◌}
use mathlib.Core.Path.{◌≡◌}
use Rattle.shift.proofs.RaisedRecords.{Running}
use Rattle.shift.proofs.records.raise_records.Given as goal

-- so many are left
abbrev pub invariant-loop : goal.invariant-loop
invariant-loop l = (left : ℕ) × (l.counter + left ≡ l.n) × Running l.by l.s l.n l.initial.out l.p left l.out
