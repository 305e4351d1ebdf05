-- `groups::find::groups_whole` meets its contract: what is left of the groups is whole where all are.
use Rattle.exts.proofs.Remains.{left-start}
use Rattle.exts.specs.Entries.{unbroken}
use Rattle.groups.proofs.Askings.{whole-done, whole-broken, whole-next}
use Rattle.paper.specs.rules.Choice.{every}
use Rattle.groups.proofs.find.groups_whole.Goals as goal

pub loop-p-init : goal.loop-p-init
loop-p-init c = λ sort. left-start _ sort _ _ _ (every unbroken)

pub returns-in_default : goal.returns-in_default
returns-in_default c = record { is = λ sort. whole-broken (c.loop-p.invariant sort) c.loop-p-test.true c.in_default.ensures }

pub loop-p-preserved : goal.loop-p-preserved
loop-p-preserved c = λ sort. whole-next (c.loop-p.invariant sort) c.loop-p-test.true c.in-Some.ensures

pub returns : goal.returns
returns c = record { is = λ sort. whole-done (c.loop-p.invariant sort) c.loop-p-test.false }
