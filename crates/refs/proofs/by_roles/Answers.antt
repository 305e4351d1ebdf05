-- `refs::by_roles` meets its contract: the third word of the head, then the tail.
use mathlib.Core.Bool.{not}
use mathlib.Core.Path.{ap}
use mathlib.Core.Path.{refl, sym, ◌∙◌}
use Rattle.paper.specs.rules.References.{ref_word_ok, refs_ok}
use Rattle.views.specs.Shown.{table_by}
use Rattle.rows.proofs.ByRole.{record-head, record-tail}
use Rattle.refs.proofs.References.{head-ref, word_none}
use Rattle.refs.proofs.by_roles.Goals as goal
use Rattle.refs.proofs.by_roles.Goals.{then-is_reference+else-not-ref_ok, else-is_reference}

pub ref_ok-requires : goal.ref_ok-requires
ref_ok-requires c = sym c.is_reference.ensures ∙ c.if-is_reference.true

pub returns-then-not-ref_ok : goal.returns-then-not-ref_ok
unfolding refs_ok
returns-then-not-ref_ok c =
    let a = c.args in
    let T = table_by a.base.now a.b.now a.index.now a.view in
    record-head a.view.order (ref_word_ok T) a.bytes.now c.read-info.ensures c.kind_of.ensures refl c.third_role-role.ensures
    (head-ref a.view.order T a.bytes.now c.kind_of.result c.third_role-role.result c.ref_ok.ensures) (ap not c.if-not-ref_ok.true)

pub returns : goal.returns
unfolding refs_ok
returns c =
    let a = c.args in
    let T = table_by a.base.now a.b.now a.index.now a.view in
    elim c.if-is_reference.branch [
      | then-is_reference+else-not-ref_ok w ↦
          record-tail a.view.order (ref_word_ok T) a.bytes.now c.read-info.ensures c.kind_of.ensures refl c.third_role-role.ensures
          (head-ref a.view.order T a.bytes.now c.kind_of.result c.third_role-role.result w.ref_ok.ensures) (ap not w.if-not-ref_ok.false)
          c.tail_refs_ok.ensures
      | else-is_reference w ↦
          record-tail a.view.order (ref_word_ok T) a.bytes.now c.read-info.ensures c.kind_of.ensures refl c.third_role-role.ensures
          (head-ref a.view.order T a.bytes.now c.kind_of.result c.third_role-role.result
          (word_none T _ c.third_role-role.result (sym c.is_reference.ensures ∙ w.if-is_reference.false))) refl c.tail_refs_ok.ensures
    ]
