-- `list::written::write` meets its contract: 54 with the table's report, or what its list leaves.
use Rattle.std.specs.Prelude.{Err}
use mathlib.Core.Path.{ap, ◌∙◌}
use Rattle.list.proofs.Writings.{write-accepted, write-listed, write-refused}
use Rattle.lists.specs.declared.WriteError.{WriteError}
use Rattle.paper.proofs.basics.Exits.{exit-same, mapped-err, mapped-ok}
use Rattle.paper.proofs.bytes.Bytes.{slice-bytes}
use Rattle.list.proofs.written.write.Goals as goal

pub listed-requires : goal.listed-requires
listed-requires c =
    let a = c.args in
    write-accepted c.check.ensures a.out.now (mapped-ok _ c.check.result c.map_err.ensures.cases c.in_ok-map_err.was) (slice-bytes a.b.now c.type_inv.b)

pub returns-in_err-map_err : goal.returns-in_err-map_err
returns-in_err-map_err c =
    let (r, is, same) = mapped-err _ c.check.result c.map_err.ensures.cases c.in_err-map_err.was in
    rw (exit-same c.from_residual.result c.from_residual.ensures.1 ∙ ap (λ (x : WriteError). Err x) same)
    (write-refused c.check.ensures c.args.out.now r is)

pub returns : goal.returns
returns c = write-listed c.check.ensures c.args.out.now (mapped-ok _ c.check.result c.map_err.ensures.cases c.in_ok-map_err.was) c.listed.ensures
