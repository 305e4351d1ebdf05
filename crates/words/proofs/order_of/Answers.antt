-- `words::order_of` meets its contract, by the first two bytes.
use mathlib.Core.Path.{sym}
use Rattle.words.proofs.Orders.{order_of-short, order_of-first, order_of-second, order_of-high}
use Rattle.words.proofs.order_of.Goals as goal

pub returns-then-b-lt2 : goal.returns-then-b-lt2
returns-then-b-lt2 c = sym (order_of-short _ c.if-b-lt2.true)

pub returns-then-b : goal.returns-then-b
returns-then-b c = sym (order_of-first _ c.if-b-lt2.false c.if-b.true)

pub returns-then-b-2 : goal.returns-then-b-2
returns-then-b-2 c = sym (order_of-second _ c.if-b-lt2.false c.if-b.false c.if-b-2.true)

pub returns : goal.returns
returns c = sym (order_of-high _ c.if-b-lt2.false c.if-b.false c.if-b-2.false)
