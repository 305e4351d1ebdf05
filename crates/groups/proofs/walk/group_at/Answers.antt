-- `groups::walk::group_at` meets its contract: its head, its count, and where its records end.
use native.Mathlib.Omega.{arith}
use Rattle.groups.proofs.Walks.{group-cut, group-none, group-long, group-in}
use Rattle.groups.proofs.walk.group_at.Goals as goal

pub returns-then-room-lt8 : goal.returns-then-room-lt8
returns-then-room-lt8 c = group-cut _ _ _ _ (omega (arith, c.requires, c.if-room-lt8.true))

pub returns-then-count-eq0 : goal.returns-then-count-eq0
returns-then-count-eq0 c = group-none _ _ _ _ (omega (arith, c.requires, c.if-room-lt8.false)) c.blob_word-count.ensures c.if-count-eq0.true

pub returns-then-most-bytes : goal.returns-then-most-bytes
returns-then-most-bytes c = group-long _ _ _ _ (omega (arith, c.requires, c.if-room-lt8.false)) c.blob_word-count.ensures c.if-count-eq0.false (omega (arith, c.requires, c.if-room-lt8.false, c.if-most-bytes.true))

pub returns : goal.returns
returns c = group-in _ _ _ _ (omega (arith, c.requires, c.if-room-lt8.false)) c.blob_word-count.ensures c.if-count-eq0.false c.blob_word-name.ensures (omega (arith, c.requires, c.if-room-lt8.false, c.if-most-bytes.false))
