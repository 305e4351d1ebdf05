-- `ext::checked::check_ext` meets its contract: 40 with the table's report, or what the section is beside it.
use mathlib.Core.Path.{ap, ◌∙◌}
use Rattle.std.specs.Prelude.{Err}
use Rattle.exts.specs.declared.ExtError.{ExtError}
use Rattle.paper.proofs.basics.Exits.{exit-same, mapped-err, mapped-ok}
use Rattle.ext.proofs.Extendings.{ext-refused, ext-beside}
use Rattle.paper.proofs.bytes.Bytes.{slice-bytes}
use Rattle.ext.proofs.checked.check_ext.Goals as goal

pub returns-in_err-n : goal.returns-in_err-n
returns-in_err-n c =
    let (r, is, same) = mapped-err _ c.check.result c.map_err.ensures.cases c.in_err-n.was in
    rw (exit-same c.from_residual.result c.from_residual.ensures.1 ∙ ap (λ (x : ExtError). Err x) same)
    (ext-refused c.check.ensures c.args.s.now r is)

pub returns : goal.returns
returns c =
    let a = c.args in
    ext-beside c.check.ensures a.s.now (mapped-ok _ c.check.result c.map_err.ensures.cases c.in_ok-n.was)
    (slice-bytes a.b.now c.shared_slice_known-1.given) c.beside.ensures
