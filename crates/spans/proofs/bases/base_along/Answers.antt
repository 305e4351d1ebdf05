-- `spans::bases::base_along` meets its contract. The loop's invariant: what is left of the way leads to the base.
use Prim.Native.Nat.{ℕ, ◌+◌, ◌-◌}
use mathlib.Core.Bool.{not}
use mathlib.Core.Path.{◌≡◌, ap, sym}
use native.Mathlib.Omega.{arith}
use Rattle.paper.specs.rules.Span.{base_from}
use Rattle.views.proofs.Shows.{table_by-count}
use Rattle.views.specs.Shown.{table_by}
use Rattle.spans.proofs.Leads.{leading-done, leading-stop, leading-next, base-found}
use Rattle.spans.proofs.bases.base_along.Goals as goal

pub loop-init : goal.loop-init
loop-init c =
    let all : c.args.view.n ≡ c.args.view.n - 0 = omega arith in
    let a = c.args in
    record { rest = ap (λ (k : ℕ). base_from (table_by a.base.now a.b.now a.index.now a.view) k a.t.0) all }

pub returns-then-not-is_alias : goal.returns-then-not-is_alias
returns-then-not-is_alias c =
    base-found _ _ (sym (table_by-count _ _ _ _))
    (leading-stop c.loop.invariant (omega arith) c.kind_at.ensures c.is_alias.ensures (ap not c.if-not-is_alias.true))
    c.record_of.ensures.shows

pub loop-preserved : goal.loop-preserved
loop-preserved c =
    let next : c.args.view.n - c.loop.counter - 1 ≡ c.args.view.n - (c.loop.counter + 1) = omega arith in
    rw next at
    (leading-next c.loop.invariant (omega arith) c.kind_at.ensures c.is_alias.ensures (ap not c.if-not-is_alias.false) _ _
    c.word_of-at.ensures.shows c.word_of-at.ensures.says)

pub returns : goal.returns
returns c = base-found _ _ (sym (table_by-count _ _ _ _)) (leading-done c.loop.invariant (omega arith)) c.record_of-2.ensures.shows
