-- `lean::questions::name_leaning` meets its contract: the part of the blob whose strings hold the offset, at its very place.
use mathlib.Core.Path.{refl}
use Rattle.lean.proofs.Askings.{side-as, name-base, name-own, name-none}
use Rattle.lean.proofs.questions.name_leaning.Goals as goal

pub returns-in-Some-Base : goal.returns-in-Some-Base
returns-in-Some-Base c =
    let a = c.args in
    let h = side-as a.base.now a.own.now a.at.0 (rw c.in-Some-Base.field-0-is at c.in-Some-Base.is) c.side_of.ensures in
    name-base _ _ _ h.0 h.1 h.2 c.name.ensures

pub returns-in-Some-Own : goal.returns-in-Some-Own
returns-in-Some-Own c =
    let a = c.args in
    let h = side-as a.base.now a.own.now a.at.0 (rw c.in-Some-Own.field-0-is at c.in-Some-Own.is) c.side_of.ensures in
    name-own _ _ _ h.0 h.1 h.2 c.name_behind.ensures

pub returns-in-None : goal.returns-in-None
returns-in-None c =
    let a = c.args in
    name-none a.base a.own a.at.0 (side-as a.base.now a.own.now a.at.0 c.in-None.is c.side_of.ensures) refl refl
