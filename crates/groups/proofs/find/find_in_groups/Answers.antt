-- `groups::find::find_in_groups` meets its contract: the record that is left to find among the groups that are left.
use Rattle.exts.proofs.Remains.{left-start}
use Rattle.groups.proofs.Askings.{after, found-done, found-broken, found_here, found-next}
use Rattle.groups.proofs.find.find_in_groups.Goals as goal

pub loop-p-init : goal.loop-p-init
loop-p-init c = λ sort. left-start _ sort _ _ _ (after c.args.y)

pub returns-in_err-group : goal.returns-in_err-group
returns-in_err-group c = rw c.from_residual.ensures (record { is = λ sort. found-broken (c.loop-p.invariant sort) c.loop-p-test.true c.in_err-group.ensures })

pub returns-then-left-group : goal.returns-then-left-group
returns-then-left-group c = record { is = λ sort. found_here (c.loop-p.invariant sort) c.loop-p-test.true c.in_ok-group.ensures c.if-left-group.true }

pub loop-p-preserved : goal.loop-p-preserved
loop-p-preserved c = λ sort. found-next (c.loop-p.invariant sort) c.loop-p-test.true c.in_ok-group.ensures c.if-left-group.false

pub returns : goal.returns
returns c = record { is = λ sort. found-done (c.loop-p.invariant sort) c.loop-p-test.false }
