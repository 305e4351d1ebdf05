use lib.ListN.{length}
use Rattle.views.specs.Shown.{table_by}
use Rattle.links.proofs.Pointing.{Pointing}
use Rattle.links.proofs.pointers.pointers.Given as goal

abbrev pub invariant-loop-k : goal.invariant-loop-k
invariant-loop-k l = Pointing (table_by l.base l.b l.index l.view) l.view.n (length l.initial.work) l.work l.k
