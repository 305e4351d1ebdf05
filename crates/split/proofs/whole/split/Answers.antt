-- `split::whole::split` meets its contract: the table's own report, or what the cut leaves.
use mathlib.Core.Path.{ap, ◌∙◌}
use Rattle.std.specs.Prelude.{Err}
use Rattle.parts.specs.declared.SplitError.{SplitError}
use Rattle.paper.proofs.basics.Exits.{exit-same, mapped-err, mapped-ok}
use Rattle.paper.proofs.bytes.Bytes.{slice-bytes}
use Rattle.split.proofs.Aparts.{split-refused, split-accepted, split-apart}
use Rattle.split.proofs.whole.split.Goals as goal

pub apart-requires : goal.apart-requires
apart-requires c =
    let a = c.args in
    split-accepted c.check.ensures a.types.0 a.strings.0 a.first.now a.second.now (mapped-ok _ c.check.result c.map_err.ensures.cases c.in_ok-n.was)
    (slice-bytes a.b.now c.shared_slice_known-1.given)

pub returns-in_err-n : goal.returns-in_err-n
returns-in_err-n c =
    let a = c.args in
    let (r, is, same) = mapped-err _ c.check.result c.map_err.ensures.cases c.in_err-n.was in
    rw (exit-same c.from_residual.result c.from_residual.ensures.1 ∙ ap (λ (x : SplitError). Err x) same)
    (split-refused c.check.ensures a.types.0 a.strings.0 a.first.now a.second.now r is)

pub returns : goal.returns
returns c =
    let a = c.args in
    split-apart c.check.ensures a.types.0 a.strings.0 a.first.now a.second.now (mapped-ok _ c.check.result c.map_err.ensures.cases c.in_ok-n.was) c.apart.ensures
