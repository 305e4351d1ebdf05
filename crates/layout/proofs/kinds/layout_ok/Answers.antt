-- `layout::kinds::layout_ok` meets its contract: by kind.
use mathlib.Core.Path.{◌≡◌, refl, sym, ap, ◌∙◌}
use Rattle.layout.specs.Told.{recalled, variable_told, layout_told}
use Rattle.paper.specs.terms.Reading.{record_in}
use Rattle.paper.specs.rules.Table.{record_at, kind_of}
use Rattle.rows.proofs.RecordWords.{kind-read, third-read}
use Rattle.layout.proofs.LayoutKinds.{layout-struct, layout-union, layout-array, layout-var, layout-func, layout-tag, layout-section, layout-other}
use Rattle.layout.proofs.kinds.layout_ok.Goals as goal

-- the kind that was read is that of the type's record
kind : (c : goal.In-3)
    → c.kind_of.result ≡ kind_of (record_in c.args.view.order c.record_of-bytes.result.now)
kind c = kind-read _ _ refl c.read.ensures c.kind_of.ensures

-- the kind that was read is that of the type's record
kind-2 : (c : goal.In-17)
    → c.kind_of.result ≡ kind_of (record_in c.args.view.order c.record_of-bytes.result.now)
kind-2 c = kind-read _ _ refl c.read.ensures c.kind_of.ensures

-- the kind that was read is that of the type's record
kind-3 : (c : goal.After-array_ok)
    → c.kind_of.result ≡ kind_of (record_in c.args.view.order c.record_of-bytes.result.now)
kind-3 c = kind-read _ _ refl c.read.ensures c.kind_of.ensures

-- what the rules say of the record in the bytes, they say of the type
of-type : (c : goal.After-array_ok) → let a = c.args in
    let X = recalled a.base.now a.b.now a.index.now a.view a.memo.now in
    layout_told X (record_in a.view.order c.record_of-bytes.result.now) ≡ layout_told X (record_at X.table a.t.0)
of-type c =
    let a = c.args in
    ap (layout_told (recalled a.base.now a.b.now a.index.now a.view a.memo.now)) c.record_of-bytes.ensures.shows

-- the kind that was read is that of the type's record
kind-4 : (c : goal.After-members_ok)
    → c.kind_of.result ≡ kind_of (record_in c.args.view.order c.record_of-bytes.result.now)
kind-4 c = kind-read _ _ refl c.read.ensures c.kind_of.ensures

-- what the rules say of the record in the bytes, they say of the type
of-type-2 : (c : goal.After-members_ok) → let a = c.args in
    let X = recalled a.base.now a.b.now a.index.now a.view a.memo.now in
    layout_told X (record_in a.view.order c.record_of-bytes.result.now) ≡ layout_told X (record_at X.table a.t.0)
of-type-2 c =
    let a = c.args in
    ap (layout_told (recalled a.base.now a.b.now a.index.now a.view a.memo.now)) c.record_of-bytes.ensures.shows

-- the kind that was read is that of the type's record
kind-5 : (c : goal.After-members_ok-in-5)
    → c.kind_of.result ≡ kind_of (record_in c.args.view.order c.record_of-bytes.result.now)
kind-5 c = kind-read _ _ refl c.read.ensures c.kind_of.ensures

-- what the rules say of the record in the bytes, they say of the type
of-type-3 : (c : goal.After-members_ok-in-5) → let a = c.args in
    let X = recalled a.base.now a.b.now a.index.now a.view a.memo.now in
    layout_told X (record_in a.view.order c.record_of-bytes.result.now) ≡ layout_told X (record_at X.table a.t.0)
of-type-3 c =
    let a = c.args in
    ap (layout_told (recalled a.base.now a.b.now a.index.now a.view a.memo.now)) c.record_of-bytes.ensures.shows

-- the kind that was read is that of the type's record
kind-6 : (c : goal.After-function_ok)
    → c.kind_of.result ≡ kind_of (record_in c.args.view.order c.record_of-bytes.result.now)
kind-6 c = kind-read _ _ refl c.read.ensures c.kind_of.ensures

-- what the rules say of the record in the bytes, they say of the type
of-type-4 : (c : goal.After-function_ok) → let a = c.args in
    let X = recalled a.base.now a.b.now a.index.now a.view a.memo.now in
    layout_told X (record_in a.view.order c.record_of-bytes.result.now) ≡ layout_told X (record_at X.table a.t.0)
of-type-4 c =
    let a = c.args in
    ap (layout_told (recalled a.base.now a.b.now a.index.now a.view a.memo.now)) c.record_of-bytes.ensures.shows

-- the kind that was read is that of the type's record
kind-7 : (c : goal.After-has_small_size)
    → c.kind_of.result ≡ kind_of (record_in c.args.view.order c.record_of-bytes.result.now)
kind-7 c = kind-read _ _ refl c.read.ensures c.kind_of.ensures

-- what the rules say of the record in the bytes, they say of the type
of-type-5 : (c : goal.After-has_small_size) → let a = c.args in
    let X = recalled a.base.now a.b.now a.index.now a.view a.memo.now in
    layout_told X (record_in a.view.order c.record_of-bytes.result.now) ≡ layout_told X (record_at X.table a.t.0)
of-type-5 c =
    let a = c.args in
    ap (layout_told (recalled a.base.now a.b.now a.index.now a.view a.memo.now)) c.record_of-bytes.ensures.shows

-- the kind that was read is that of the type's record
kind-8 : (c : goal.After-section_ok)
    → c.kind_of.result ≡ kind_of (record_in c.args.view.order c.record_of-bytes.result.now)
kind-8 c = kind-read _ _ refl c.read.ensures c.kind_of.ensures

-- what the rules say of the record in the bytes, they say of the type
of-type-6 : (c : goal.After-section_ok) → let a = c.args in
    let X = recalled a.base.now a.b.now a.index.now a.view a.memo.now in
    layout_told X (record_in a.view.order c.record_of-bytes.result.now) ≡ layout_told X (record_at X.table a.t.0)
of-type-6 c =
    let a = c.args in
    ap (layout_told (recalled a.base.now a.b.now a.index.now a.view a.memo.now)) c.record_of-bytes.ensures.shows

-- the kind that was read is that of the type's record
kind-9 : (c : goal.After-tag_ok)
    → c.kind_of.result ≡ kind_of (record_in c.args.view.order c.record_of-bytes.result.now)
kind-9 c = kind-read _ _ refl c.read.ensures c.kind_of.ensures

-- what the rules say of the record in the bytes, they say of the type
of-type-7 : (c : goal.After-tag_ok) → let a = c.args in
    let X = recalled a.base.now a.b.now a.index.now a.view a.memo.now in
    layout_told X (record_in a.view.order c.record_of-bytes.result.now) ≡ layout_told X (record_at X.table a.t.0)
of-type-7 c =
    let a = c.args in
    ap (layout_told (recalled a.base.now a.b.now a.index.now a.view a.memo.now)) c.record_of-bytes.ensures.shows

-- the kind that was read is that of the type's record
kind-10 : (c : goal.In_default)
    → c.kind_of.result ≡ kind_of (record_in c.args.view.order c.record_of-bytes.result.now)
kind-10 c = kind-read _ _ refl c.read.ensures c.kind_of.ensures

-- what the rules say of the record in the bytes, they say of the type
of-type-8 : (c : goal.In_default) → let a = c.args in
    let X = recalled a.base.now a.b.now a.index.now a.view a.memo.now in
    layout_told X (record_in a.view.order c.record_of-bytes.result.now) ≡ layout_told X (record_at X.table a.t.0)
of-type-8 c =
    let a = c.args in
    ap (layout_told (recalled a.base.now a.b.now a.index.now a.view a.memo.now)) c.record_of-bytes.ensures.shows

pub array_ok-requires : goal.array_ok-requires
array_ok-requires c = sym (kind c) ∙ c.in-3.is

pub tag_ok-requires : goal.tag_ok-requires
tag_ok-requires c = sym (kind-2 c) ∙ c.in-17.is

pub returns-in-3 : goal.returns-in-3
returns-in-3 c = layout-array _ _ (kind-3 c) c.in-3.is c.array_ok.ensures ∙ of-type c

pub returns-in-4 : goal.returns-in-4
returns-in-4 c = layout-struct _ _ (kind-4 c) c.in-4.is c.members_ok.ensures ∙ of-type-2 c

pub returns-in-5 : goal.returns-in-5
returns-in-5 c = layout-union _ _ (kind-5 c) c.in-5.is c.members_ok-in-5.ensures ∙ of-type-3 c

pub returns-in-12 : goal.returns-in-12
returns-in-12 c = layout-func _ _ (kind-6 c) c.in-12.is c.function_ok.ensures ∙ of-type-4 c

pub returns-in-14 : goal.returns-in-14
returns-in-14 c =
    let a = c.args in
    let X = recalled a.base.now a.b.now a.index.now a.view a.memo.now in
    let third = third-read _ c.record_of-bytes.result.now refl c.read-in-14.ensures in
    layout-var X _ (kind-7 c) c.in-14.is (c.has_small_size.ensures ∙ ap (variable_told X) third) ∙ of-type-5 c

pub returns-in-15 : goal.returns-in-15
returns-in-15 c = layout-section _ _ (kind-8 c) c.in-15.is c.section_ok.ensures ∙ of-type-6 c

pub returns-in-17 : goal.returns-in-17
returns-in-17 c = layout-tag _ _ (kind-9 c) c.in-17.is c.tag_ok.ensures ∙ of-type-7 c

pub returns-in_default : goal.returns-in_default
returns-in_default c =
    let r = c.in_default.in_default-own.rest in
    layout-other _ _ (kind-10 c) r.0.0.0.0.0.0.1 r.0.0.0.0.0.1 r.0.0.0.0.1 r.0.0.0.1 r.0.0.1 r.0.1 r.1 ∙ of-type-8 c
