-- `naming::names_ok` meets its contract: the name of the head, then the tail.
use mathlib.Core.Bool.{not}
use mathlib.Core.Path.{ap}
use mathlib.Core.Path.{refl}
use Rattle.paper.specs.rules.Kind.{row_of}
use Rattle.pairs.specs.Lean.{name_word_over, names_over}
use Rattle.rows.proofs.ByRole.{record-head, record-tail}
use Rattle.naming.proofs.NameRoles.{name-code, head-name}
use Rattle.naming.proofs.names_ok.Goals as goal

pub name_ok-requires : goal.name_ok-requires
name_ok-requires c = name-code (row_of c.kind_of.result).name c.name_role.ensures

pub returns-then-not-name_ok : goal.returns-then-not-name_ok
unfolding names_over
returns-then-not-name_ok c =
    let a = c.args in
    record-head a.order (name_word_over a.base.now a.strings.now) a.bytes.now c.read-info.ensures c.kind_of.ensures
    c.name_role.ensures refl (head-name a.order a.base.now a.strings.now a.bytes.now c.kind_of.result c.name_role.result c.name_ok.ensures) (ap not c.if-not-name_ok.true)

pub returns : goal.returns
unfolding names_over
returns c =
    let a = c.args in
    record-tail a.order (name_word_over a.base.now a.strings.now) a.bytes.now c.read-info.ensures c.kind_of.ensures
    c.name_role.ensures refl (head-name a.order a.base.now a.strings.now a.bytes.now c.kind_of.result c.name_role.result c.name_ok.ensures)
    (ap not c.if-not-name_ok.false) c.tail_names_ok.ensures
