use Prim.Native.Nat.{◌-◌}
use Rattle.views.specs.Shown.{table_by}
use Rattle.spans.proofs.Leads.{Leading}
use Rattle.spans.proofs.bases.base_along.Given as goal

abbrev pub invariant-loop : goal.invariant-loop
invariant-loop l = Leading (table_by l.base l.b l.index l.view) l.end l.initial.at (l.end - l.counter) l.at
