-- `links::held::is_open` meets its contract.
use Prim.Native.Nat.{ℕ}
use mathlib.Core.Path.{sym, ap, ◌∙◌}
use mathlib.Core.Bool.{Bool, not, ◌&&◌}
use borrow.Author.Tests.{eq-eqb, ne_eqb}
use lib.Dec.{ltb}
use lib.ListN.{get_or, get_or-eq_default}
use Rattle.recall.specs.Recall.{first_telling}
use Rattle.links.proofs.held.is_open.Goals as goal

pub returns-then-u-eq0 : goal.returns-then-u-eq0
returns-then-u-eq0 c = sym (ap (λ (z : Bool). not z && ltb (get_or c.args.work.now c.args.u 0) first_telling) (eq-eqb _ 0 c.if-u-eq0.true))

pub returns-then-work-i : goal.returns-then-work-i
returns-then-work-i c =
    let a = c.args in
    sym
    (ap (λ (z : Bool). not z && ltb (get_or a.work.now a.u 0) first_telling) (ne_eqb a.u 0 c.if-u-eq0.false)
    ∙ ap (λ (m : ℕ). ltb m first_telling) (get_or-eq_default a.work.now 0 c.if-work-i.true))

pub returns : goal.returns
returns c =
    let a = c.args in
    sym (ap (λ (z : Bool). not z && ltb (get_or a.work.now a.u 0) first_telling) (ne_eqb a.u 0 c.if-u-eq0.false))
