-- `onepass::back::settle` meets its contract.
use mathlib.Core.Bool.{not}
use mathlib.Core.Path.{ap}
use native.Mathlib.Omega.{arith}
use mathlib.Core.Path.{refl, sym, ◌∙◌}
use borrow.Author.Tests.{not-false}
use Rattle.glance.proofs.Glances.{went-look, went-settled}
use Rattle.onepass.proofs.Backing.{indexed-record, indexed-tail, not-open}
use Rattle.onepass.proofs.back.settle.Goals as goal

pub returns-then-not-is_open : goal.returns-then-not-is_open
returns-then-not-is_open c = went-settled _ _ c.requires.1 c.is_open.ensures (ap not c.if-not-is_open.true)

pub overflow_cast-place : goal.overflow_cast-place
overflow_cast-place c = omega (arith, c.shared_slice_known-3-1.given c.args.t)

pub returns : goal.returns
returns c =
    let x = c.requires.0 in
    let t = c.args.t in
    let low = c.requires.3 in
    let high = c.requires.4 in
    let closed = not-open c.is_open-2.ensures c.if-is_open.false in
    went-look _ _ c.requires.1 low high (sym c.is_open.ensures ∙ not-false _ (ap not c.if-not-is_open.false)) (indexed-tail x t low high)
    (indexed-record x t low high refl c.rest_from-bytes.ensures.bytes c.requires.2) c.look-s.ensures c.if-s-eq-STRANGE.false closed.0
    (λ two. closed.1)
