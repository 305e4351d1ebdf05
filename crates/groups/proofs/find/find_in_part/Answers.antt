-- `groups::find::find_in_part` meets its contract: nothing, 45, or a record of its groups.
use mathlib.Core.Bool.{not}
use mathlib.Core.Path.{ap}
use Rattle.groups.proofs.Picks.{none-empty, none-size, found-groups}
use Rattle.groups.proofs.find.find_in_part.Goals as goal

pub returns-then-end-from : goal.returns-then-end-from
returns-then-end-from c =
    let a = c.args in
    none-empty a.s.now a.sort a.from a.end c.if-end-from.true a.y

pub returns-then-not-size_ok : goal.returns-then-not-size_ok
returns-then-not-size_ok c =
    let a = c.args in
    none-size a.s.now a.sort a.from a.end c.if-end-from.false c.blob_word-size.ensures c.size_ok.ensures (ap not c.if-not-size_ok.true) a.y

pub returns : goal.returns
returns c =
    let a = c.args in
    found-groups a.s.now a.sort a.from a.end c.if-end-from.false c.blob_word-size.ensures c.size_ok.ensures (ap not c.if-not-size_ok.false) a.y c.find_in_groups.ensures
