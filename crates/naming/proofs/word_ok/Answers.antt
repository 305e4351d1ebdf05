-- `naming::word_ok` meets its contract: a code that is no name passes.
use mathlib.Core.Bool.{not}
use mathlib.Core.Path.{ap}
use mathlib.Core.Path.{sym, ◌∙◌}
use borrow.Author.Tests.{not-false}
use Rattle.naming.proofs.NameRoles.{word-other}
use Rattle.naming.proofs.word_ok.Goals as goal

pub returns-then-not-is_name : goal.returns-then-not-is_name
returns-then-not-is_name c =
    let a = c.args in
    word-other a.base.now a.strings.now a.role _ c.is_name.ensures (ap not c.if-not-is_name.true)

pub name_ok-requires : goal.name_ok-requires
name_ok-requires c = sym c.is_name.ensures ∙ not-false c.is_name.result (ap not c.if-not-is_name.false)

pub returns : goal.returns
returns c = c.name_ok.ensures
