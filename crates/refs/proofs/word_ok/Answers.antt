-- `refs::word_ok` meets its contract: a code that is no reference passes.
use mathlib.Core.Bool.{not}
use mathlib.Core.Path.{ap}
use mathlib.Core.Path.{sym, ◌∙◌}
use borrow.Author.Tests.{not-false}
use Rattle.refs.proofs.References.{word-other}
use Rattle.views.specs.Shown.{table_by}
use Rattle.refs.proofs.word_ok.Goals as goal

pub returns-then-not-is_reference : goal.returns-then-not-is_reference
returns-then-not-is_reference c =
    let a = c.args in
    word-other (table_by a.base.now a.b.now a.index.now a.view) _ a.role c.is_reference.ensures (ap not c.if-not-is_reference.true)

pub ref_ok-requires : goal.ref_ok-requires
ref_ok-requires c = sym c.is_reference.ensures ∙ not-false c.is_reference.result (ap not c.if-not-is_reference.false)

pub returns : goal.returns
returns c = c.ref_ok.ensures
