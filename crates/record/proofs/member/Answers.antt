-- `record::member` meets its contract: 34, or what is found by the index that the check left.
use Rattle.paper.proofs.bytes.Bytes.{slice-bytes}
use Rattle.record.proofs.Giving.{member-refused, member-accepted}
use Rattle.record.proofs.member.Goals as goal

pub returns-in-Err : goal.returns-in-Err
returns-in-Err c =
    let a = c.args in
    member-refused {c = c.check.result} c.check.ensures a.t.0 a.m a.s.now c.in-Err.r c.in-Err.is

pub returns-in-Ok : goal.returns-in-Ok
returns-in-Ok c =
    let a = c.args in
    member-accepted c.check.ensures a.t.0 a.m a.s.now (slice-bytes a.b.now c.shared_slice_known-1.given) _ c.in-Ok.is
    c.span_of.result c.span_of.ensures c.value_of.result c.value_of.ensures
