-- `header::names::name` meets its contract: the part of the blob that is found, at its very place.
use native.Mathlib.Omega.{arith}
use Rattle.header.proofs.Scans.{name_at-inside, name_at-cut}
use Rattle.header.proofs.names.name.Goals as goal

pub cut_out-requires : goal.cut_out-requires
cut_out-requires c =
    let a = c.args in
    let e = c.part.ensures in
    omega (arith, e.starts, e.long, name_at-inside a.b.now a.at.0)

pub returns : goal.returns
returns c = name_at-cut c.cut_out.ensures _ c.part.ensures
