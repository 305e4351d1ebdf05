use Prim.Native.Nat.{ℕ, ◌+◌, ◌*◌, ◌/◌}
use mathlib.Core.Path.{◌≡◌}
use Rattle.glance.proofs.FieldsLeft.{Lying}
use Rattle.paper.specs.terms.Reading.{record_in}
use Rattle.glance.proofs.fields.fields_fit.Given as goal

-- so many words are left
abbrev pub invariant-loop-i : goal.invariant-loop-i
invariant-loop-i l = (left : ℕ) × (l.i + left / 3 ≡ l.n) × Lying l.work (record_in l.order l.bytes) l.order l.bytes (12 + 12 * l.i) left l.before
