-- `glance::whole::glance` meets its contract.
use mathlib.Core.Bool.{false≢true}
use mathlib.Core.Path.{sym}
use Rattle.glance.proofs.Glances.{glancing-start, all-good}
use Rattle.views.proofs.Shows.{table_by-count}
use borrow.Author.Tests.{eqb-true}
use Rattle.glance.proofs.whole.glance.Goals as goal

pub returns-then-n-gt-TYPE_LIMIT : goal.returns-then-n-gt-TYPE_LIMIT
returns-then-n-gt-TYPE_LIMIT c = λ e. absurd (false≢true e)

pub returns-then-work-n : goal.returns-then-work-n
returns-then-work-n c = λ e. absurd (false≢true e)

pub sweep-first-requires : goal.sweep-first-requires
sweep-first-requires c = glancing-start _ _ (sym (table_by-count _ _ _ _)) _ c.clear.ensures c.if-work-n.false

pub returns-then-first-eq2 : goal.returns-then-first-eq2
returns-then-first-eq2 c = λ e. all-good _ _ c.sweep-first.ensures.0 (c.sweep-first.ensures.1 c.if-first-eq2.true)

pub returns-then-first-eq0 : goal.returns-then-first-eq0
returns-then-first-eq0 c = λ e. absurd (false≢true e)

pub returns : goal.returns
returns c = λ e. all-good _ _ c.sweep.ensures.0 (c.sweep.ensures.1 (eqb-true _ 2 e))
