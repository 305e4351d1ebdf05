-- `spans::members::member_span` meets its contract: no size, no span; else the span that its base and offset say.
use Rattle.views.specs.Shown.{table_by}
use Rattle.paper.specs.terms.Reading.{record_in}
use Rattle.sizes.proofs.Measured.{measures, small_size-told}
use Rattle.spans.proofs.SpanTests.{span_none, span_small}
use Rattle.spans.proofs.members.member_span.Goals as goal

pub returns-in-Exact : goal.returns-in-Exact
returns-in-Exact c =
    let T = table_by c.args.base.now c.args.b.now c.args.index.now c.args.view in
    span_small T c.args.flag c.args.offset c.args.t.0
    (small_size-told T c.args.t.0 c.in-Exact.is (measures c.size_in.result _ c.size_in.ensures))
    (record_in c.args.view.order c.base_record-under.result.now) c.base_record-under.ensures c.span_with.ensures

pub returns-in-NoSize : goal.returns-in-NoSize
returns-in-NoSize c =
    let T = table_by c.args.base.now c.args.b.now c.args.index.now c.args.view in
    span_none T c.args.flag c.args.offset c.args.t.0
    (small_size-told T c.args.t.0 c.in-NoSize.is (measures c.size_in.result _ c.size_in.ensures))

pub returns-in-Overflow : goal.returns-in-Overflow
returns-in-Overflow c =
    let T = table_by c.args.base.now c.args.b.now c.args.index.now c.args.view in
    span_none T c.args.flag c.args.offset c.args.t.0
    (small_size-told T c.args.t.0 c.in-Overflow.is (measures c.size_in.result _ c.size_in.ensures))

pub returns-in-Lost : goal.returns-in-Lost
returns-in-Lost c =
    let T = table_by c.args.base.now c.args.b.now c.args.index.now c.args.view in
    span_none T c.args.flag c.args.offset c.args.t.0
    (small_size-told T c.args.t.0 c.in-Lost.is (measures c.size_in.result _ c.size_in.ensures))

pub returns-in-TooFar : goal.returns-in-TooFar
returns-in-TooFar c =
    let T = table_by c.args.base.now c.args.b.now c.args.index.now c.args.view in
    span_none T c.args.flag c.args.offset c.args.t.0
    (small_size-told T c.args.t.0 c.in-TooFar.is (measures c.size_in.result _ c.size_in.ensures))
