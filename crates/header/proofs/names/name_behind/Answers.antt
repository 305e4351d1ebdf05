-- `header::names::name_behind` meets its contract: the part of the blob that is found, at its very place.
use native.Mathlib.Omega.{arith}
use Rattle.header.proofs.Scans.{name_at_behind-inside, name_at_behind-cut}
use Rattle.header.proofs.names.name_behind.Goals as goal

pub cut_out-requires : goal.cut_out-requires
cut_out-requires c =
    let a = c.args in
    let e = c.part_behind.ensures in
    omega (arith, e.starts, e.long, name_at_behind-inside a.b.now a.at.0 a.before)

pub returns : goal.returns
returns c = name_at_behind-cut c.cut_out.ensures _ _ c.part_behind.ensures
