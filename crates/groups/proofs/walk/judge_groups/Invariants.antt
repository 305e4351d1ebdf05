use Prim.Native.Nat.{◌-◌}
use mathlib.Core.List.{[]}
use Rattle.exts.specs.Ext.{first_fault}
use Rattle.exts.proofs.Remains.{Left}
use Rattle.groups.specs.Walking.{groups_fault}
use Rattle.views.specs.Shown.{table_by}
use Rattle.groups.proofs.walk.judge_groups.Given as goal

abbrev pub invariant-loop-p : goal.invariant-loop-p
invariant-loop-p l = Left l.s l.sort l.size l.end l.p (groups_fault (table_by [] l.b l.index l.view) l.strings l.s l.sort l.size l.at l.end) (first_fault l.strings (table_by [] l.b l.index l.view))

abbrev pub decreases-loop-p : goal.decreases-loop-p
decreases-loop-p l = l.end - l.p
