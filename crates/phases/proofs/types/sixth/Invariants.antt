use Rattle.paper.proofs.gates.Looks.{Looking}
use Rattle.phases.specs.Said.{phase6_told}
use Rattle.views.specs.Shown.{place_by, table_by}
use Rattle.phases.proofs.types.sixth.Given as goal

abbrev pub invariant-loop-k : goal.invariant-loop-k
invariant-loop-k l = Looking (place_by l.index l.view) (phase6_told l.memo (table_by l.base l.b l.index l.view)) l.view.n l.k
