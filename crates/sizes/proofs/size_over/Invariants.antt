use Prim.Native.Nat.{ℕ, ◌+◌}
use mathlib.Core.Path.{◌≡◌}
use lib.ListN.{length}
use Rattle.sizes.proofs.Scales.{Left}
use Rattle.pairs.specs.Lean.{step_over, size_over}
use Rattle.paper.specs.rules.Size.{size_answer}
use Rattle.sizes.proofs.size_over.Given as goal

-- so many reads are left
abbrev pub invariant-loop : goal.invariant-loop
invariant-loop l = (reads : ℕ) × (l.counter + reads ≡ length l.index) × Left size_answer (step_over l.base l.before l.b l.index) (size_over l.base l.before l.b l.index l.initial.at) l.at l.count reads
