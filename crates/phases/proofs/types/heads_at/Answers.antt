-- `phases::types::heads_at` meets its contract: the number that is due of the type's record.
use mathlib.Core.Path.{refl}
use Rattle.std.specs.Prelude.{Some, None}
use Rattle.rules.specs.declared.phase.Due.TheVariants.{Head, Named, Tail}
use Rattle.phases.proofs.TypeDues.{heads-due}
use Rattle.paper.specs.rules.Answer.{report_as_paper}
use Rattle.views.specs.Shown.{table_by}
use Rattle.phases.proofs.types.heads_at.Goals as goal

pub returns-in-None : goal.returns-in-None
unfolding report_as_paper
returns-in-None c =
    let a = c.args in
    heads-due (table_by a.base.now a.b.now a.index.now a.view) a.t.0 None c.in-None.is c.phase3.ensures refl refl c.record_of.ensures.shows c.place_of-at.ensures

pub returns-in-Some-Head : goal.returns-in-Some-Head
unfolding report_as_paper
returns-in-Some-Head c =
    let a = c.args in
    heads-due (table_by a.base.now a.b.now a.index.now a.view) a.t.0 (Some Head) (rw c.in-Some-Head.field-0-is at c.in-Some-Head.is) c.phase3.ensures refl refl c.record_of.ensures.shows c.place_of-at.ensures

pub returns-in-Some-Named : goal.returns-in-Some-Named
unfolding report_as_paper
returns-in-Some-Named c =
    let a = c.args in
    heads-due (table_by a.base.now a.b.now a.index.now a.view) a.t.0 (Some Named) (rw c.in-Some-Named.field-0-is at c.in-Some-Named.is) c.phase3.ensures refl refl c.record_of.ensures.shows c.place_of-at.ensures

pub returns-in-Some-Tail : goal.returns-in-Some-Tail
unfolding report_as_paper
returns-in-Some-Tail c =
    let a = c.args in
    heads-due (table_by a.base.now a.b.now a.index.now a.view) a.t.0 (Some Tail) (rw c.in-Some-Tail.field-0-is at c.in-Some-Tail.is) c.phase3.ensures refl refl c.record_of.ensures.shows c.place_of-at.ensures
