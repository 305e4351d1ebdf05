use Prim.Native.Nat.{ℕ, ◌+◌}
use mathlib.Core.Path.{◌≡◌}
use Rattle.sizes.proofs.Scales.{Left}
use Rattle.sizes.proofs.TableSizes.{tell_in}
use Rattle.paper.specs.rules.Size.{step_in, exact_size, answer_of}
use Rattle.views.specs.Shown.{table_by}
use Rattle.sizes.proofs.shown.size_in.Given as goal

-- so many reads are left
abbrev pub invariant-loop : goal.invariant-loop
invariant-loop l =
    let T = table_by l.base l.b l.index l.view in
    (reads : ℕ) × (l.counter + reads ≡ l.view.n) × Left tell_in (step_in T) (answer_of (exact_size T l.initial.at)) l.at l.count reads
