-- `phases::types::layout_at` meets its contract: 15 where the layout of the type breaks a rule.
use Prim.Native.Nat.{ℕ}
use mathlib.Core.Path.{◌≡◌, refl, sym, ◌∙◌}
use mathlib.Core.Bool.{Bool, not}
use mathlib.Core.List.{[], ◌∷◌}
use Rattle.phases.proofs.TypeDues.{layout-due}
use Rattle.paper.specs.rules.Answer.{report_as_paper}
use Rattle.paper.specs.rules.Choice.{◌when◌, first_due}
use Rattle.paper.specs.rules.Gate.{naming_at}
use Rattle.phases.specs.Said.{phase6_told}
use Rattle.views.specs.Shown.{place_by, table_by}
use Rattle.phases.proofs.types.layout_at.Goals as goal

due : (c : goal.Then-layout_ok) {z : Bool} {p : ℕ} → let a = c.args in
    let T = table_by a.base.now a.b.now a.index.now a.view in
    c.layout_ok.result ≡ z → p ≡ place_by a.index.now a.view a.t.0
    → naming_at a.t.0 p (first_due (15 when not z ∷ [])) ≡ naming_at a.t.0 (place_by a.index.now a.view a.t.0) (first_due (phase6_told a.memo.now T a.t.0))
due c e at =
    let a = c.args in
    layout-due a.memo.now (table_by a.base.now a.b.now a.index.now a.view) a.t.0 (sym e ∙ c.layout_ok.ensures) at

due-2 : (c : goal.After-place_of) {z : Bool} {p : ℕ} → let a = c.args in
    let T = table_by a.base.now a.b.now a.index.now a.view in
    c.layout_ok.result ≡ z → p ≡ place_by a.index.now a.view a.t.0
    → naming_at a.t.0 p (first_due (15 when not z ∷ [])) ≡ naming_at a.t.0 (place_by a.index.now a.view a.t.0) (first_due (phase6_told a.memo.now T a.t.0))
due-2 c e at =
    let a = c.args in
    layout-due a.memo.now (table_by a.base.now a.b.now a.index.now a.view) a.t.0 (sym e ∙ c.layout_ok.ensures) at

pub returns-then-layout_ok : goal.returns-then-layout_ok
returns-then-layout_ok c = due c c.if-layout_ok.true refl

pub returns : goal.returns
unfolding report_as_paper
returns c = due-2 c c.if-layout_ok.false c.place_of.ensures
