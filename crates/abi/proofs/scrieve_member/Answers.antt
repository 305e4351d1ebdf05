-- `abi::scrieve_member` meets its contract: 34, or the span and the value by the index that the check left.
use Rattle.abi.proofs.Spanning.{member-34, member-parts}
use Rattle.paper.proofs.bytes.Bytes.{slice-bytes}
use Rattle.abi.proofs.scrieve_member.Goals as goal

pub returns-in-Err : goal.returns-in-Err
returns-in-Err c =
    let a = c.args in
    member-34 {c = c.check.result} c.check.ensures a.t a.m a.bytes.now c.in-Err.r c.in-Err.is c.refuse.ensures

pub returns-in-Ok : goal.returns-in-Ok
returns-in-Ok c =
    let a = c.args in
    member-parts c.check.ensures a.t a.m a.bytes.now (slice-bytes a.blob.now c.shared_slice_known-1.given) _ c.in-Ok.is
    c.span_of.result c.span_of.ensures c.put_span.ensures c.scrieve_value.ensures
