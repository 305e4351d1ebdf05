-- `list::reading::read_cleared` meets its contract: what is read of the list, and what is looked at of its table.
use Rattle.std.specs.Prelude.{Err}
use mathlib.Core.Path.{ap, ◌∙◌}
use lib.ListN.{length}
use Rattle.list.proofs.Readings.{look-unread}
use Rattle.lists.specs.declared.MakeError.{MakeError}
use Rattle.paper.proofs.basics.Exits.{exit-same, mapped-err, mapped-ok}
use Rattle.list.proofs.reading.read_cleared.Goals as goal

pub look-requires : goal.look-requires
look-requires c =
    let is = mapped-ok _ c.measure.result c.map_err.ensures.cases c.in_ok-x.was in
    record { table = rw is at c.measure.ensures; index_clear = c.requires.0; work_clear = c.requires.1 }

pub returns-in_err-x : goal.returns-in_err-x
returns-in_err-x c =
    let a = c.args in
    let (f, is, same) = mapped-err _ c.measure.result c.map_err.ensures.cases c.in_err-x.was in
    rw (exit-same c.from_residual.result c.from_residual.ensures.1 ∙ ap (λ (x : MakeError). Err x) same)
    (look-unread a.s.now _ _ (length a.bytes.now) a.out.now f (rw is at c.measure.ensures) c.requires.0 c.requires.1)
