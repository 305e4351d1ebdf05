-- `rules::quick::array_good` meets its contract: where both tests pass.
use mathlib.Core.Bool.{false≢true}
use mathlib.Core.Path.{sym, ◌∙◌}
use Rattle.rules.proofs.quick.array_good.Goals as goal

pub returns-then-read-ne0 : goal.returns-then-read-ne0
returns-then-read-ne0 c = λ e. absurd (false≢true e)

pub returns : goal.returns
returns c = λ e. (sym c.read.ensures ∙ c.if-read-ne0.false, sym c.nameless.ensures ∙ e)
