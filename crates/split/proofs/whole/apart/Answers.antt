-- `split::whole::apart` meets its contract: the cut, the lengths, then both parts.
use mathlib.Core.Bool.{not}
use mathlib.Core.Path.{ap}
use mathlib.Core.Bool.{true}
use mathlib.Core.Path.{◌≡◌, refl, sym, ◌∙◌}
use native.Mathlib.Omega.{arith}
use borrow.Author.Tests.{not-true, not-false}
use lib.Seq.{length-take-le}
use Rattle.paper.specs.rules.Walk.{table_of}
use Rattle.parts.specs.Cut.{cut_ok}
use Rattle.split.proofs.Aparts.{cut-shown, cut-ask, cut-few, first-long, second-long, both-inside}
use Rattle.split.proofs.Aparts.{apart-60, apart-61-first, apart-61-second, apart-made}
use Rattle.split.specs.Parting.{CutAsk}
use Rattle.split.proofs.whole.apart.Goals as goal

-- the cut of the table that the index shows is that of the blob's own
asked : (c : goal.Then-not-cut_ok) → let a = c.args in
    c.cut_ok.result ≡ cut_ok a.types.0 a.strings.0 (table_of a.b.now)
asked c =
    let a = c.args in
    c.cut_ok.ensures ∙ cut-shown c.requires _ refl c.order_of-order.ensures refl a.types.0 a.strings.0

-- the cut of the table that the index shows is that of the blob's own
asked-2 : (c : goal.Else-not-cut_ok) → let a = c.args in
    c.cut_ok.result ≡ cut_ok a.types.0 a.strings.0 (table_of a.b.now)
asked-2 c =
    let a = c.args in
    c.cut_ok.ensures ∙ cut-shown c.requires _ refl c.order_of-order.ensures refl a.types.0 a.strings.0

-- past the first test it goes through
through : (c : goal.Else-not-cut_ok) → let a = c.args in cut_ok a.types.0 a.strings.0 (table_of a.b.now) ≡ true
through c = sym (asked-2 c) ∙ not-false _ (ap not c.if-not-cut_ok.false)

-- the cut of the table that the index shows is that of the blob's own
asked-3 : (c : goal.After-struct_known-1) → let a = c.args in
    c.cut_ok.result ≡ cut_ok a.types.0 a.strings.0 (table_of a.b.now)
asked-3 c =
    let a = c.args in
    c.cut_ok.ensures ∙ cut-shown c.requires _ refl c.order_of-order.ensures refl a.types.0 a.strings.0

-- past the first test it goes through
through-2 : (c : goal.After-struct_known-1) → let a = c.args in cut_ok a.types.0 a.strings.0 (table_of a.b.now) ≡ true
through-2 c = sym (asked-3 c) ∙ not-false _ (ap not c.if-not-cut_ok.false)

ask : (c : goal.After-struct_known-1) → let a = c.args in CutAsk a.b.now a.types.0 a.strings.0 c.middle_of-middle.result
ask c =
    cut-ask c.requires c.args.types.0 c.args.strings.0 (through-2 c) c.middle_of-middle.ensures

-- the cut of the table that the index shows is that of the blob's own
asked-4 : (c : goal.Then-first-one) → let a = c.args in
    c.cut_ok.result ≡ cut_ok a.types.0 a.strings.0 (table_of a.b.now)
asked-4 c =
    let a = c.args in
    c.cut_ok.ensures ∙ cut-shown c.requires _ refl c.order_of-order.ensures refl a.types.0 a.strings.0

-- past the first test it goes through
through-3 : (c : goal.Then-first-one) → let a = c.args in cut_ok a.types.0 a.strings.0 (table_of a.b.now) ≡ true
through-3 c = sym (asked-4 c) ∙ not-false _ (ap not c.if-not-cut_ok.false)

ask-2 : (c : goal.Then-first-one) → let a = c.args in CutAsk a.b.now a.types.0 a.strings.0 c.middle_of-middle.result
ask-2 c =
    cut-ask c.requires c.args.types.0 c.args.strings.0 (through-3 c) c.middle_of-middle.ensures

-- the cut of the table that the index shows is that of the blob's own
asked-5 : (c : goal.Then-second-two) → let a = c.args in
    c.cut_ok.result ≡ cut_ok a.types.0 a.strings.0 (table_of a.b.now)
asked-5 c =
    let a = c.args in
    c.cut_ok.ensures ∙ cut-shown c.requires _ refl c.order_of-order.ensures refl a.types.0 a.strings.0

-- past the first test it goes through
through-4 : (c : goal.Then-second-two) → let a = c.args in cut_ok a.types.0 a.strings.0 (table_of a.b.now) ≡ true
through-4 c = sym (asked-5 c) ∙ not-false _ (ap not c.if-not-cut_ok.false)

ask-3 : (c : goal.Then-second-two) → let a = c.args in CutAsk a.b.now a.types.0 a.strings.0 c.middle_of-middle.result
ask-3 c =
    cut-ask c.requires c.args.types.0 c.args.strings.0 (through-4 c) c.middle_of-middle.ensures

-- the cut of the table that the index shows is that of the blob's own
asked-6 : (c : goal.After-write_first-arg-1) → let a = c.args in
    c.cut_ok.result ≡ cut_ok a.types.0 a.strings.0 (table_of a.b.now)
asked-6 c =
    let a = c.args in
    c.cut_ok.ensures ∙ cut-shown c.requires _ refl c.order_of-order.ensures refl a.types.0 a.strings.0

-- past the first test it goes through
through-5 : (c : goal.After-write_first-arg-1) → let a = c.args in cut_ok a.types.0 a.strings.0 (table_of a.b.now) ≡ true
through-5 c = sym (asked-6 c) ∙ not-false _ (ap not c.if-not-cut_ok.false)

ask-4 : (c : goal.After-write_first-arg-1) → let a = c.args in CutAsk a.b.now a.types.0 a.strings.0 c.middle_of-middle.result
ask-4 c =
    cut-ask c.requires c.args.types.0 c.args.strings.0 (through-5 c) c.middle_of-middle.ensures

-- the cut of the table that the index shows is that of the blob's own
asked-7 : (c : goal.After-struct_known-2-1) → let a = c.args in
    c.cut_ok.result ≡ cut_ok a.types.0 a.strings.0 (table_of a.b.now)
asked-7 c =
    let a = c.args in
    c.cut_ok.ensures ∙ cut-shown c.requires _ refl c.order_of-order.ensures refl a.types.0 a.strings.0

-- past the first test it goes through
through-6 : (c : goal.After-struct_known-2-1) → let a = c.args in cut_ok a.types.0 a.strings.0 (table_of a.b.now) ≡ true
through-6 c = sym (asked-7 c) ∙ not-false _ (ap not c.if-not-cut_ok.false)

-- the cut of the table that the index shows is that of the blob's own
asked-8 : (c : goal.After-write_second-arg-1) → let a = c.args in
    c.cut_ok.result ≡ cut_ok a.types.0 a.strings.0 (table_of a.b.now)
asked-8 c =
    let a = c.args in
    c.cut_ok.ensures ∙ cut-shown c.requires _ refl c.order_of-order.ensures refl a.types.0 a.strings.0

-- past the first test it goes through
through-7 : (c : goal.After-write_second-arg-1) → let a = c.args in cut_ok a.types.0 a.strings.0 (table_of a.b.now) ≡ true
through-7 c = sym (asked-8 c) ∙ not-false _ (ap not c.if-not-cut_ok.false)

ask-5 : (c : goal.After-write_second-arg-1) → let a = c.args in CutAsk a.b.now a.types.0 a.strings.0 c.middle_of-middle.result
ask-5 c =
    cut-ask c.requires c.args.types.0 c.args.strings.0 (through-7 c) c.middle_of-middle.ensures

-- the cut of the table that the index shows is that of the blob's own
asked-9 : (c : goal.After-slice_known-4-1) → let a = c.args in
    c.cut_ok.result ≡ cut_ok a.types.0 a.strings.0 (table_of a.b.now)
asked-9 c =
    let a = c.args in
    c.cut_ok.ensures ∙ cut-shown c.requires _ refl c.order_of-order.ensures refl a.types.0 a.strings.0

-- past the first test it goes through
through-8 : (c : goal.After-slice_known-4-1) → let a = c.args in cut_ok a.types.0 a.strings.0 (table_of a.b.now) ≡ true
through-8 c = sym (asked-9 c) ∙ not-false _ (ap not c.if-not-cut_ok.false)

ask-6 : (c : goal.After-slice_known-4-1) → let a = c.args in CutAsk a.b.now a.types.0 a.strings.0 c.middle_of-middle.result
ask-6 c =
    cut-ask c.requires c.args.types.0 c.args.strings.0 (through-8 c) c.middle_of-middle.ensures

pub returns-then-not-cut_ok : goal.returns-then-not-cut_ok
returns-then-not-cut_ok c =
    let a = c.args in
    apart-60 a.b.now a.types.0 a.strings.0 a.first.now a.second.now (sym (asked c) ∙ not-true _ (ap not c.if-not-cut_ok.true))

pub middle_of-middle-requires : goal.middle_of-middle-requires
middle_of-middle-requires c = (c.requires, cut-few c.requires c.args.types.0 c.args.strings.0 (through c))

pub overflow_sub-two : goal.overflow_sub-two
overflow_sub-two c = (both-inside (ask c)).0

pub returns-then-first-one : goal.returns-then-first-one
returns-then-first-one c =
    let a = c.args in
    apart-61-first a.b.now a.types.0 a.strings.0 a.first.now a.second.now (through-3 c) (omega (arith, c.if-first-one.true, first-long (ask-2 c)))

pub returns-then-second-two : goal.returns-then-second-two
returns-then-second-two c =
    let a = c.args in
    apart-61-second a.b.now a.types.0 a.strings.0 a.first.now a.second.now (through-4 c) (omega (arith, c.if-second-two.true, second-long (ask-3 c)))

pub slice_bounds-write_first-end-2 : goal.slice_bounds-write_first-end-2
slice_bounds-write_first-end-2 c = sym (length-take-le _ c.args.first.now c.if-first-one.false)

pub write_first-requires : goal.write_first-requires
write_first-requires c = (ask-4 c, length-take-le _ c.args.first.now c.if-first-one.false ∙ sym (first-long (ask-4 c)))

pub overflow_sub-behind : goal.overflow_sub-behind
overflow_sub-behind c = cut-few c.requires c.args.types.0 c.args.strings.0 (through-6 c)

pub slice_bounds-write_second-end-2 : goal.slice_bounds-write_second-end-2
slice_bounds-write_second-end-2 c = sym (length-take-le _ c.args.second.now c.if-second-two.false)

pub write_second-requires : goal.write_second-requires
write_second-requires c = (ask-5 c, omega (arith, cut-few c.requires c.args.types.0 c.args.strings.0 (through-7 c), c.requires.counted), length-take-le _ c.args.second.now c.if-second-two.false ∙ sym (second-long (ask-5 c)))

pub overflow_cast-result : goal.overflow_cast-result
overflow_cast-result c = omega (arith, both-inside (ask-6 c))

pub overflow_cast-result-2 : goal.overflow_cast-result-2
overflow_cast-result-2 c = omega (arith, both-inside (ask-6 c))

pub returns : goal.returns
returns c =
    let a = c.args in
    let one = first-long (ask-6 c) in
    let two = second-long (ask-6 c) in
    apart-made a.b.now a.types.0 a.strings.0 a.first.now a.second.now (through-8 c) (omega (arith, c.if-first-one.false)) (omega (arith, c.if-second-two.false))
    (sym one) (sym two) c.write_first.ensures c.write_second.ensures
