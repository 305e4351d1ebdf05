-- `groups::find::part_whole` meets its contract: nothing, 45, or its groups.
use mathlib.Core.Bool.{not}
use mathlib.Core.Path.{ap}
use Rattle.groups.proofs.Picks.{whole-empty, whole-size, whole-groups}
use Rattle.groups.proofs.find.part_whole.Goals as goal

pub returns-then-end-from : goal.returns-then-end-from
returns-then-end-from c =
    let a = c.args in
    whole-empty a.s.now a.sort a.from a.end c.if-end-from.true

pub returns-then-not-size_ok : goal.returns-then-not-size_ok
returns-then-not-size_ok c =
    let a = c.args in
    whole-size a.s.now a.sort a.from a.end c.if-end-from.false c.blob_word-size.ensures c.size_ok.ensures (ap not c.if-not-size_ok.true)

pub returns : goal.returns
returns c =
    let a = c.args in
    whole-groups a.s.now a.sort a.from a.end c.if-end-from.false c.blob_word-size.ensures c.size_ok.ensures (ap not c.if-not-size_ok.false) c.groups_whole.ensures
