use Prim.Native.Nat.{◌-◌}
use Rattle.exts.proofs.Remains.{Left}
use Rattle.exts.specs.Entries.{unbroken}
use Rattle.exts.specs.Items.{groups_from}
use Rattle.exts.specs.declared.Sort.{Sort}
use Rattle.paper.specs.rules.Choice.{every}
use Rattle.groups.proofs.find.groups_whole.Given as goal

abbrev pub invariant-loop-p : goal.invariant-loop-p
invariant-loop-p l = (sort : Sort) → Left l.s sort l.size l.end l.p (every unbroken (groups_from l.s l.end sort l.size l.at l.end)) (every unbroken)

abbrev pub decreases-loop-p : goal.decreases-loop-p
decreases-loop-p l = l.end - l.p
