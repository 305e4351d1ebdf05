use lib.ListN.{length}
use Rattle.links.proofs.Pointing.{OnTrail}
use Rattle.links.proofs.Weights.{weights}
use Rattle.views.specs.Shown.{table_by}
use Rattle.links.proofs.pointers.trail.Given as goal

abbrev pub invariant-loop-view : goal.invariant-loop-view
invariant-loop-view l = OnTrail (table_by l.base l.b l.index l.view) l.view.n (length l.initial.work) l.root.0 l.work l.t

abbrev pub decreases-loop-view : goal.decreases-loop-view
decreases-loop-view l = weights l.work l.view.n
