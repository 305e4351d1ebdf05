use lib.ListN.{length}
use Rattle.glance.proofs.Glances.{Sweeping}
use Rattle.views.specs.Shown.{table_by}
use Rattle.glance.proofs.whole.sweep.Given as goal

abbrev pub invariant-loop-k : goal.invariant-loop-k
invariant-loop-k l = Sweeping (table_by l.base l.b l.index l.view) l.view.n l.back (length l.initial.work) l.k l.all l.work
