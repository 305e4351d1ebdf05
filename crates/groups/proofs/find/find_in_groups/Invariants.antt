use Prim.Native.Nat.{◌-◌}
use Rattle.exts.proofs.Remains.{Left}
use Rattle.exts.specs.Items.{groups_from}
use Rattle.exts.specs.declared.Sort.{Sort}
use Rattle.groups.proofs.Askings.{after}
use Rattle.groups.proofs.find.find_in_groups.Given as goal

abbrev pub invariant-loop-p : goal.invariant-loop-p
invariant-loop-p l = (sort : Sort) → Left l.s sort l.size l.end l.p (after l.y (groups_from l.s l.end sort l.size l.at l.end)) (after l.left)

abbrev pub decreases-loop-p : goal.decreases-loop-p
decreases-loop-p l = l.end - l.p
