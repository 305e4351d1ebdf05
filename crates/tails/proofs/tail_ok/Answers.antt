-- `tails::tail_ok` meets its contract: by kind.
use Rattle.tails.proofs.TailKinds.{tail-int, tail-var, tail-proto, tail-other}
use Rattle.tails.proofs.tail_ok.Goals as goal

pub returns-in-1 : goal.returns-in-1
returns-in-1 c =
    tail-int _ c.args.bytes.now c.read-info.ensures c.kind_of.ensures c.in-1.is
    c.read.ensures c.read-in-1.ensures c.int_ok.ensures

pub returns-in-13 : goal.returns-in-13
returns-in-13 c =
    tail-proto _ c.args.bytes.now c.read-info.ensures c.kind_of.ensures c.in-13.is
    c.vlen_of.ensures c.voids_last.ensures

pub returns-in-14 : goal.returns-in-14
returns-in-14 c =
    tail-var _ c.args.bytes.now c.read-info.ensures c.kind_of.ensures c.in-14.is
    c.read-in-14.ensures c.linkage_ok.ensures

pub returns-in_default : goal.returns-in_default
returns-in_default c =
    let r = c.in_default.in_default-own.rest in
    tail-other _ c.args.bytes.now c.read-info.ensures c.kind_of.ensures r.0.0.1 r.0.1 r.1
