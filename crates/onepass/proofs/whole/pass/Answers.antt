-- `onepass::whole::pass` meets its contract.
use native.Mathlib.Omega.{arith}
use lib.ListN.{length}
use Rattle.onepass.proofs.Ways.{begins, section-small, sure-lengths, zeros-length}
use Rattle.paper.proofs.bytes.Bytes.{slice-bytes}
use Rattle.onepass.proofs.whole.pass.Goals as goal

pub overflow_add-s : goal.overflow_add-s
overflow_add-s c = omega (arith, section-small _ c.read.ensures c.in-Ok.is)

pub both_ways-requires : goal.both_ways-requires
both_ways-requires c =
    let a = c.args in
    begins _ c.read.ensures c.in-Ok.is (slice-bytes a.b.now c.shared_slice_known-1.given) c.order_of.ensures
    c.in-LowFirst.is (length a.index.now) (length a.work.now) c.clear.ensures c.clear-in-Ok.ensures

pub returns-in-Ok : goal.returns-in-Ok
returns-in-Ok c =
    sure-lengths c.both_ways.result _ _ (zeros-length _ c.clear.ensures) (zeros-length _ c.clear-in-Ok.ensures)
    c.both_ways.ensures
