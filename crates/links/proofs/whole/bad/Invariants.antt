use Rattle.paper.proofs.gates.Looks.{Looking}
use Rattle.paper.specs.rules.Gate.{phase4}
use Rattle.paper.specs.rules.Walk.{place_at}
use Rattle.views.specs.Shown.{table_by}
use Rattle.links.proofs.whole.bad.Given as goal

abbrev pub invariant-loop-k : goal.invariant-loop-k
invariant-loop-k l = let T = table_by l.base l.b l.index l.view in Looking (place_at T) (phase4 T) l.view.n l.k
