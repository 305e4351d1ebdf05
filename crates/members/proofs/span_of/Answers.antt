-- `members::span_of` meets its contract: 35, 21, or what the table that the index shows says.
use mathlib.Core.Path.{sym, ◌∙◌}
use Rattle.values.specs.Given.{sort_number}
use Rattle.members.proofs.Looking.{looked-35, looked-21, looked-in}
use Rattle.members.proofs.span_of.Goals as goal

pub returns-in-HighFirst : goal.returns-in-HighFirst
unfolding sort_number
returns-in-HighFirst c =
    let a = c.args in
    looked-35 a.b.now a.index.now a.t.0 a.m (sym c.order_of-order.ensures ∙ c.in-HighFirst.is) c.no_span.ensures

pub returns-then-placeless : goal.returns-then-placeless
unfolding sort_number
returns-then-placeless c =
    let a = c.args in
    looked-21 a.b.now a.index.now a.t.0 a.m (sym c.order_of-order.ensures ∙ c.in-LowFirst.is) c.placeless.ensures c.if-placeless.true c.no_span-then-placeless.ensures

pub returns : goal.returns
unfolding sort_number
returns c =
    let a = c.args in
    looked-in a.b.now a.index.now a.t.0 a.m (sym c.order_of-order.ensures ∙ c.in-LowFirst.is) c.placeless.ensures c.if-placeless.false
    c.places-n.ensures c.order_of-order.ensures c.member_in.ensures
