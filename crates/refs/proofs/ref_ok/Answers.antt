-- `refs::ref_ok` meets its contract: it goes by its rule.
use Prim.Native.Nat.{ℕ}
use mathlib.Core.Path.{refl, sym, ap, ap₂, ◌∙◌}
use Rattle.refs.proofs.References.{word-rule}
use Rattle.refs.specs.Refers.{ref_by, ref_rule_of}
use Rattle.paper.specs.rules.References.{ref_word_ok}
use Rattle.views.specs.Shown.{table_by}
use Rattle.kindrows.specs.Codes.{role_of}
use Rattle.refs.proofs.ref_ok.Goals as goal

pub returns : goal.returns
returns c =
    let a = c.args in
    let T = table_by a.base.now a.b.now a.index.now a.view in
    let t = c.read-t.result in
    word-rule T t a.role (sym c.requires) refl
    (c.by_rule.ensures ∙ ap₂ (λ (m n : ℕ). ref_by (ref_rule_of m) t n) c.rule_of.ensures c.kind_at.ensures)
    ∙ ap (ref_word_ok T (role_of a.role)) c.read-t.ensures
