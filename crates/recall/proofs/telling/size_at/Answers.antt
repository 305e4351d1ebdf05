-- `recall::telling::size_at` meets its contract.
use mathlib.Core.Path.{sym, ap, ◌∙◌}
use Rattle.views.specs.Shown.{table_by}
use Rattle.sizes.specs.SizeStep.{step_as_paper}
use Rattle.recall.proofs.Tellings.{none_said, word-exact, at-is, at-sizeless, at-lost, at_one, at-many, step-read}
use Rattle.recall.proofs.telling.size_at.Goals as goal

pub returns-then-n-eq1 : goal.returns-then-n-eq1
returns-then-n-eq1 c =
    let a = c.args in
    at_one a.memo.now (table_by a.base.now a.b.now a.index.now a.view) a.a.0 (sym (step-read a.view.order a.bytes.now) ∙ sym c.step_words.ensures ∙ ap step_as_paper c.in-ManyOf.is) c.told-code.ensures c.if-n-eq1.true
    c.step_in.ensures c.told.ensures c.size_behind.ensures

pub returns-in-Is : goal.returns-in-Is
returns-in-Is c =
    let a = c.args in
    at-is a.memo.now (table_by a.base.now a.b.now a.index.now a.view) a.a.0 (sym (step-read a.view.order a.bytes.now) ∙ sym c.step_words.ensures ∙ ap step_as_paper c.in-Is.is) (word-exact _ c.in-Is.known_told-1-own.given.0.1)

pub returns-else-n-eq1 : goal.returns-else-n-eq1
returns-else-n-eq1 c =
    let a = c.args in
    at-many a.memo.now (table_by a.base.now a.b.now a.index.now a.view) a.a.0 (sym (step-read a.view.order a.bytes.now) ∙ sym c.step_words.ensures ∙ ap step_as_paper c.in-ManyOf.is) c.told-code.ensures c.if-n-eq1.false c.many_told.ensures

pub returns-in-Sizeless : goal.returns-in-Sizeless
returns-in-Sizeless c =
    let a = c.args in
    at-sizeless a.memo.now (table_by a.base.now a.b.now a.index.now a.view) a.a.0 (sym (step-read a.view.order a.bytes.now) ∙ sym c.step_words.ensures ∙ ap step_as_paper c.in-Sizeless.is) none_said

pub returns-in-Lost : goal.returns-in-Lost
returns-in-Lost c =
    let a = c.args in
    at-lost a.memo.now (table_by a.base.now a.b.now a.index.now a.view) a.a.0 (sym (step-read a.view.order a.bytes.now) ∙ sym c.step_words.ensures ∙ ap step_as_paper c.in-Lost.is) none_said
