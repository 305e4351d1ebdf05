use mathlib.Core.List.{[]}
use Rattle.cuts.proofs.Runs.{Running}
use Rattle.cuts.specs.Sides.{keeps_to}
use Rattle.paper.specs.rules.Table.{every_word}
use Rattle.views.specs.Shown.{table_by}
use Rattle.cuts.proofs.tables.run_keeps.Given as goal

abbrev pub invariant-loop-k : goal.invariant-loop-k
invariant-loop-k l = Running (every_word (keeps_to l.cut)) (table_by [] l.b l.index l.view) l.from l.to l.k
