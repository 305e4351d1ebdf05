use lib.ListN.{length}
use Rattle.views.specs.Shown.{table_by}
use Rattle.links.proofs.Following.{Following, to_do}
use Rattle.links.proofs.chains.follow.Given as goal

abbrev pub invariant-loop-u : goal.invariant-loop-u
invariant-loop-u l = Following (table_by l.base l.b l.index l.view) l.view.n (length l.initial.work) l.initial.t l.work l.t l.j

abbrev pub decreases-loop-u : goal.decreases-loop-u
decreases-loop-u l = to_do l.view.n l.work l.j
