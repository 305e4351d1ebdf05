-- `layout::members::span_told` meets its contract.
use Rattle.layout.proofs.MembersLeft.{span_none, span_small}
use Rattle.layout.proofs.SizesTold.{small-told}
use Rattle.layout.specs.Told.{recalled, sized}
use Rattle.paper.specs.terms.Reading.{record_in}
use Rattle.recall.proofs.Tellings.{size-base}
use Rattle.sizes.proofs.Measured.{measures}
use Rattle.sizes.specs.Measure.{Measures}
use Rattle.views.specs.Shown.{table_by}
use Rattle.layout.proofs.members.span_told.Goals as goal

-- what is told of the type's size, by its base's record
measured : (c : goal.After-span_with) → let a = c.args in
    Measures c.size_at.result (sized (recalled a.base.now a.b.now a.index.now a.view a.memo.now) a.t.0)
measured c =
    let a = c.args in
    measures c.size_at.result _
    (size-base a.memo.now (table_by a.base.now a.b.now a.index.now a.view) a.t.0 c.base_told-a.ensures
    (record_in a.view.order c.record_of-under.result.now) c.record_of-under.ensures.shows c.size_at.ensures)

-- what is told of the type's size, by its base's record
measured-2 : (c : goal.In-NoSize) → let a = c.args in
    Measures c.size_at.result (sized (recalled a.base.now a.b.now a.index.now a.view a.memo.now) a.t.0)
measured-2 c =
    let a = c.args in
    measures c.size_at.result _
    (size-base a.memo.now (table_by a.base.now a.b.now a.index.now a.view) a.t.0 c.base_told-a.ensures
    (record_in a.view.order c.record_of-under.result.now) c.record_of-under.ensures.shows c.size_at.ensures)

-- what is told of the type's size, by its base's record
measured-3 : (c : goal.In-Overflow) → let a = c.args in
    Measures c.size_at.result (sized (recalled a.base.now a.b.now a.index.now a.view a.memo.now) a.t.0)
measured-3 c =
    let a = c.args in
    measures c.size_at.result _
    (size-base a.memo.now (table_by a.base.now a.b.now a.index.now a.view) a.t.0 c.base_told-a.ensures
    (record_in a.view.order c.record_of-under.result.now) c.record_of-under.ensures.shows c.size_at.ensures)

-- what is told of the type's size, by its base's record
measured-4 : (c : goal.In-Lost) → let a = c.args in
    Measures c.size_at.result (sized (recalled a.base.now a.b.now a.index.now a.view a.memo.now) a.t.0)
measured-4 c =
    let a = c.args in
    measures c.size_at.result _
    (size-base a.memo.now (table_by a.base.now a.b.now a.index.now a.view) a.t.0 c.base_told-a.ensures
    (record_in a.view.order c.record_of-under.result.now) c.record_of-under.ensures.shows c.size_at.ensures)

-- what is told of the type's size, by its base's record
measured-5 : (c : goal.In-TooFar) → let a = c.args in
    Measures c.size_at.result (sized (recalled a.base.now a.b.now a.index.now a.view a.memo.now) a.t.0)
measured-5 c =
    let a = c.args in
    measures c.size_at.result _
    (size-base a.memo.now (table_by a.base.now a.b.now a.index.now a.view) a.t.0 c.base_told-a.ensures
    (record_in a.view.order c.record_of-under.result.now) c.record_of-under.ensures.shows c.size_at.ensures)

pub returns-in-Exact : goal.returns-in-Exact
returns-in-Exact c =
    let a = c.args in
    span_small (recalled a.base.now a.b.now a.index.now a.view a.memo.now) a.flag a.offset a.t.0 (small-told (recalled a.base.now a.b.now a.index.now a.view a.memo.now) a.t.0 c.in-Exact.is (measured c))
    (record_in a.view.order c.record_of-under.result.now) c.record_of-under.ensures.shows c.base_told-a.ensures c.span_with.ensures

pub returns-in-NoSize : goal.returns-in-NoSize
returns-in-NoSize c =
    let a = c.args in
    span_none (recalled a.base.now a.b.now a.index.now a.view a.memo.now) a.flag a.offset a.t.0 (small-told (recalled a.base.now a.b.now a.index.now a.view a.memo.now) a.t.0 c.in-NoSize.is (measured-2 c))

pub returns-in-Overflow : goal.returns-in-Overflow
returns-in-Overflow c =
    let a = c.args in
    span_none (recalled a.base.now a.b.now a.index.now a.view a.memo.now) a.flag a.offset a.t.0 (small-told (recalled a.base.now a.b.now a.index.now a.view a.memo.now) a.t.0 c.in-Overflow.is (measured-3 c))

pub returns-in-Lost : goal.returns-in-Lost
returns-in-Lost c =
    let a = c.args in
    span_none (recalled a.base.now a.b.now a.index.now a.view a.memo.now) a.flag a.offset a.t.0 (small-told (recalled a.base.now a.b.now a.index.now a.view a.memo.now) a.t.0 c.in-Lost.is (measured-4 c))

pub returns-in-TooFar : goal.returns-in-TooFar
returns-in-TooFar c =
    let a = c.args in
    span_none (recalled a.base.now a.b.now a.index.now a.view a.memo.now) a.flag a.offset a.t.0 (small-told (recalled a.base.now a.b.now a.index.now a.view a.memo.now) a.t.0 c.in-TooFar.is (measured-5 c))
