-- `header::first::opening_bad` meets its contract: report 2, by order.
use mathlib.Core.Path.{sym, ◌∙◌}
use Rattle.header.proofs.Headers.{opening-by}
use Rattle.header.proofs.first.opening_bad.Goals as goal

pub returns-in-LowFirst : goal.returns-in-LowFirst
returns-in-LowFirst c = c.opens_otherwise.ensures ∙ opening-by _ (sym c.in-LowFirst.is ∙ c.order_of.ensures)

pub returns-in-HighFirst : goal.returns-in-HighFirst
returns-in-HighFirst c = c.opens_otherwise-in-HighFirst.ensures ∙ opening-by _ (sym c.in-HighFirst.is ∙ c.order_of.ensures)
