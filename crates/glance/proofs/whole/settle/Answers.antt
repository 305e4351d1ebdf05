-- `glance::whole::settle` meets its contract.
use mathlib.Core.Bool.{not}
use mathlib.Core.Path.{ap}
use mathlib.Core.Path.{sym, ◌∙◌}
use native.Mathlib.Omega.{arith}
use Rattle.glance.proofs.Glances.{went-settled, went-look}
use Rattle.glance.proofs.Settled.{shown-tail}
use borrow.Author.Tests.{not-false}
use Rattle.glance.proofs.whole.settle.Goals as goal

pub returns-then-not-is_open : goal.returns-then-not-is_open
returns-then-not-is_open c = went-settled _ _ c.requires.0 c.is_open.ensures (ap not c.if-not-is_open.true)

pub returns-then-s-eq-AWAITING : goal.returns-then-s-eq-AWAITING
returns-then-s-eq-AWAITING c =
    let a = c.args in
    went-look _ _ c.requires.0 c.requires.1 c.requires.2 (sym c.is_open.ensures ∙ not-false _ (ap not c.if-not-is_open.false))
    (shown-tail a.base.now a.b.now a.index.now a.view a.t.0)
    c.record_of-bytes.ensures.shows c.look-s.ensures c.if-s-eq-STRANGE.false c.if-s-eq0.false (λ two. absurd (omega arith))

pub returns : goal.returns
returns c =
    let a = c.args in
    went-look _ _ c.requires.0 c.requires.1 c.requires.2 (sym c.is_open.ensures ∙ not-false _ (ap not c.if-not-is_open.false))
    (shown-tail a.base.now a.b.now a.index.now a.view a.t.0)
    c.record_of-bytes.ensures.shows c.look-s.ensures c.if-s-eq-STRANGE.false c.if-s-eq0.false (λ two. c.if-s-eq-AWAITING.false)
