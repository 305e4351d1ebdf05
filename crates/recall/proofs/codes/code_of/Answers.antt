-- `recall::codes::code_of` meets its contract.
use mathlib.Core.Path.{refl, ap, ◌∙◌}
use Rattle.views.specs.Shown.{table_by}
use Rattle.paper.specs.terms.Reading.{record_in}
use Rattle.rows.proofs.RecordWords.{kind-read}
use Rattle.sizes.specs.SizeStep.{step_as_paper}
use Rattle.recall.proofs.Tellings.{code-alias, code-end, code-element, code-is-step, code-sizeless, code-lost-step, step-read}
use Rattle.recall.proofs.codes.code_of.Goals as goal

pub returns-then-is_alias : goal.returns-then-is_alias
returns-then-is_alias c =
    let a = c.args in
    code-alias a.memo.now (table_by a.base.now a.b.now a.index.now a.view) (record_in a.view.order a.bytes.now) (c.step_words.ensures ∙ step-read a.view.order a.bytes.now) (ap step_as_paper c.in-ManyOf.is)
    (kind-read _ a.bytes.now refl c.read.ensures c.kind_of.ensures) c.is_alias.ensures c.if-is_alias.true c.base_told.ensures

pub returns-then-n-eq1 : goal.returns-then-n-eq1
returns-then-n-eq1 c =
    let a = c.args in
    code-end a.memo.now (table_by a.base.now a.b.now a.index.now a.view) (record_in a.view.order a.bytes.now) (c.step_words.ensures ∙ step-read a.view.order a.bytes.now) (ap step_as_paper c.in-ManyOf.is)
    (kind-read _ a.bytes.now refl c.read.ensures c.kind_of.ensures) c.is_alias.ensures c.if-is_alias.false c.if-n-eq1.true c.end_told.ensures

pub returns-else-n-eq1 : goal.returns-else-n-eq1
returns-else-n-eq1 c =
    let a = c.args in
    code-element a.memo.now (table_by a.base.now a.b.now a.index.now a.view) (record_in a.view.order a.bytes.now) (c.step_words.ensures ∙ step-read a.view.order a.bytes.now) (ap step_as_paper c.in-ManyOf.is)
    (kind-read _ a.bytes.now refl c.read.ensures c.kind_of.ensures) c.is_alias.ensures c.if-is_alias.false c.if-n-eq1.false c.element_code.ensures

pub returns-in-Is : goal.returns-in-Is
returns-in-Is c =
    let a = c.args in
    code-is-step a.memo.now (table_by a.base.now a.b.now a.index.now a.view) (record_in a.view.order a.bytes.now) (c.step_words.ensures ∙ step-read a.view.order a.bytes.now) c.named_code.ensures
    (ap step_as_paper c.in-Is.is)

pub returns-in-Sizeless : goal.returns-in-Sizeless
returns-in-Sizeless c =
    let a = c.args in
    code-sizeless a.memo.now (table_by a.base.now a.b.now a.index.now a.view) (record_in a.view.order a.bytes.now) (c.step_words.ensures ∙ step-read a.view.order a.bytes.now) c.named_code-in-Sizeless.ensures
    (ap step_as_paper c.in-Sizeless.is)

pub returns-in-Lost : goal.returns-in-Lost
returns-in-Lost c =
    let a = c.args in
    code-lost-step a.memo.now (table_by a.base.now a.b.now a.index.now a.view) (record_in a.view.order a.bytes.now) (c.step_words.ensures ∙ step-read a.view.order a.bytes.now) c.named_code-in-Lost.ensures
    (ap step_as_paper c.in-Lost.is)
