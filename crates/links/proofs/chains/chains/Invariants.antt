use lib.ListN.{length}
use Rattle.views.specs.Shown.{table_by}
use Rattle.links.proofs.Roots.{Rooting}
use Rattle.links.proofs.chains.chains.Given as goal

abbrev pub invariant-loop-k : goal.invariant-loop-k
invariant-loop-k l = Rooting (table_by l.base l.b l.index l.view) l.view.n (length l.initial.work) l.work l.k
