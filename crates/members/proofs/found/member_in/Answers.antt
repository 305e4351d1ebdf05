-- `members::found::member_in` meets its contract: 31, 32, or what is said of its type and its offset word.
use mathlib.Core.Bool.{not}
use mathlib.Core.Path.{ap}
use native.Mathlib.Omega.{arith}
use Rattle.paper.specs.rules.Table.{record_at}
use Rattle.rows.proofs.RecordWords.{kind-read, third-read, vlen-read, flag-read}
use Rattle.values.specs.Given.{sort_number}
use Rattle.views.specs.Shown.{table_by}
use Rattle.members.proofs.MemberWords.{type-read, offset_read}
use Rattle.members.proofs.Seeking.{struct-so, sought-no-struct, sought-no-member, sought-member}
use Rattle.members.proofs.found.member_in.Goals as goal

pub returns-then-not-is_struct : goal.returns-then-not-is_struct
unfolding sort_number
returns-then-not-is_struct c =
    let a = c.args in
    let T = table_by a.base.now a.b.now a.index.now a.view in
    sought-no-struct T (record_at T a.t.0) a.m (kind-read _ c.record_of-bytes.result.now c.record_of-bytes.ensures.shows c.read-info.ensures c.kind_of.ensures)
    c.is_struct.ensures (ap not c.if-not-is_struct.true) c.no_span.ensures

pub returns-then-vlen_of-m : goal.returns-then-vlen_of-m
unfolding sort_number
returns-then-vlen_of-m c =
    let a = c.args in
    let T = table_by a.base.now a.b.now a.index.now a.view in
    let s = c.record_of-bytes.result.now in
    let is = c.record_of-bytes.ensures.shows in
    sought-no-member T (record_at T a.t.0) a.m (kind-read _ s is c.read-info.ensures c.kind_of.ensures) c.is_struct.ensures (ap not c.if-not-is_struct.false)
    (third-read _ s is c.read-size.ensures) (vlen-read _ s is c.read-info.ensures c.vlen_of.ensures) c.if-vlen_of-m.true c.no_span-then-vlen_of-m.ensures

pub returns : goal.returns
unfolding sort_number
returns c =
    let a = c.args in
    let T = table_by a.base.now a.b.now a.index.now a.view in
    let s = c.record_of-bytes.result.now in
    let is = c.record_of-bytes.ensures.shows in
    let kind = kind-read _ s is c.read-info.ensures c.kind_of.ensures in
    let vlen = vlen-read _ s is c.read-info.ensures c.vlen_of.ensures in
    let struct = struct-so (record_at T a.t.0) kind c.is_struct.ensures (ap not c.if-not-is_struct.false) in
    sought-member T (record_at T a.t.0) a.m kind c.is_struct.ensures (ap not c.if-not-is_struct.false)
    (third-read _ s is c.read-size.ensures) vlen c.if-vlen_of-m.false (flag-read _ s is c.read-info.ensures c.flag_of.ensures)
    (type-read _ s is struct a.m (omega (arith, vlen, c.if-vlen_of-m.false)) c.read.ensures)
    (offset_read _ s is struct a.m (omega (arith, vlen, c.if-vlen_of-m.false)) c.read-offset.ensures) c.numbered.ensures
