-- `lean::questions::part_leaning` meets its contract: the part in the blob whose strings hold the offset.
use Rattle.lean.proofs.Askings.{side-as, lying-base, lying-own}
use Rattle.lean.proofs.questions.part_leaning.Goals as goal
use mathlib.Core.Path.{ap, ◌∙◌}
use Rattle.lean.specs.declared.questions.Side.{Side}
use Rattle.std.specs.Prelude.{Some}

pub returns-in-Base : goal.returns-in-Base
returns-in-Base c =
    let a = c.args in
    let h = side-as a.base.now a.own.now a.at.0 (c.in_ok-o.was ∙ ap (λ (x : Side). Some x) c.in-Base.is) c.side_of.ensures in
    lying-base _ _ _ h.0 h.1 h.2 c.part.ensures

pub returns-in-Own : goal.returns-in-Own
returns-in-Own c =
    let a = c.args in
    let h = side-as a.base.now a.own.now a.at.0 (c.in_ok-o.was ∙ ap (λ (x : Side). Some x) c.in-Own.is) c.side_of.ensures in
    lying-own _ _ _ h.0 h.1 h.2 c.part_behind.ensures
