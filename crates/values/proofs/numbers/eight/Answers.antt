-- `values::numbers::eight` meets its contract.
use native.Mathlib.Omega.{arith}
use Rattle.paper.proofs.bytes.Bytes.{slice-bytes}
use Rattle.values.proofs.ReadBytes.{read-eight}
use Rattle.values.proofs.numbers.eight.Goals as goal

pub read-low-requires : goal.read-low-requires
read-low-requires c = tt

pub read-high-requires : goal.read-high-requires
read-high-requires c = tt

pub returns : goal.returns
returns c =
    let s = c.args.s.now in
    read-eight s (slice-bytes s c.shared_slice_known-1.given) c.read-low.ensures (omega arith) c.read-high.ensures (omega arith)
