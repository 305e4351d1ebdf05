-- `header::orders::other_opening` meets its contract: report 26, by the base's order.
use mathlib.Core.Path.{sym, ◌∙◌}
use Rattle.header.proofs.Headers.{other_opening-by}
use Rattle.header.proofs.orders.other_opening.Goals as goal

pub returns-in-LowFirst : goal.returns-in-LowFirst
returns-in-LowFirst c = c.begins_with.ensures ∙ other_opening-by _ _ (sym c.in-LowFirst.is ∙ c.order_of.ensures)

pub returns-in-HighFirst : goal.returns-in-HighFirst
returns-in-HighFirst c = c.begins_with-in-HighFirst.ensures ∙ other_opening-by _ _ (sym c.in-HighFirst.is ∙ c.order_of.ensures)
