-- `taking::one::take_field` meets its contract: 50, then 51, then the field.
use mathlib.Core.Bool.{not}
use mathlib.Core.Path.{ap}
use mathlib.Core.Path.{sym, ◌∙◌}
use native.Mathlib.Omega.{arith}
use borrow.Author.Tests.{not-false, not-true}
use Rattle.paper.proofs.bytes.Bytes.{slice-bytes}
use Rattle.taking.proofs.Fields.{field_cut, field-headless, field-none, field-unknown, field-whole}
use Rattle.taking.proofs.one.take_field.Goals as goal

pub returns-then-s-eq0 : goal.returns-then-s-eq0
returns-then-s-eq0 c = field-none c.args.s.now c.if-s-eq0.true

pub returns-then-not-is_tag : goal.returns-then-not-is_tag
returns-then-not-is_tag c = field-unknown c.args.s.now (omega (arith, c.if-s-eq0.false)) (sym c.is_tag.ensures ∙ not-true c.is_tag.result (ap not c.if-not-is_tag.true))

pub returns-then-s-lt3 : goal.returns-then-s-lt3
returns-then-s-lt3 c = field-headless c.args.s.now (omega (arith, c.if-s-eq0.false)) (sym c.is_tag.ensures ∙ not-false c.is_tag.result (ap not c.if-not-is_tag.false)) (omega (arith, c.if-s-lt3.true))

pub overflow_mul-len : goal.overflow_mul-len
overflow_mul-len c = omega (arith, c.shared_slice_known-4-1.given 2)

pub overflow_add-len : goal.overflow_add-len
overflow_add-len c = omega (arith, c.shared_slice_known-4-1.given 1, c.shared_slice_known-4-1.given 2)

pub returns-then-s-len : goal.returns-then-s-len
returns-then-s-len c = field_cut c.args.s.now (sym c.is_tag.ensures ∙ not-false c.is_tag.result (ap not c.if-not-is_tag.false)) (omega (arith, c.if-s-lt3.false)) (omega (arith, c.if-s-len.true))

pub returns : goal.returns
returns c =
    field-whole c.args.s.now (slice-bytes c.args.s.now c.shared_slice_known-4-1.given) (sym c.is_tag.ensures ∙ not-false c.is_tag.result (ap not c.if-not-is_tag.false))
    (omega (arith, c.if-s-lt3.false)) (omega (arith, c.if-s-len.false))
