-- Laws of report 15: which rule speaks of which kinds.
-- Assumes nothing.
use Prim.Native.Nat.{ℕ}
use mathlib.Core.Path.{◌≡◌, refl, sym, ap, ◌∙◌}
use mathlib.Core.Bool.{Bool, true, not, ◌&&◌, ◌||◌}
use mathlib.Core.List.{[], ◌∷◌}
use borrow.Author.Tests.{ne_eqb}
use Rattle.paper.proofs.basics.Choices.{and-nothing}
use Rattle.paper.specs.rules.Choice.{differ, member}
use Rattle.paper.specs.rules.KindNo.{ARRAY, STRUCT, UNION, FUNC, VAR, DATASEC, DECL_TAG}
use Rattle.layout.specs.Told.{Recalled, members_told, array_told, variable_told, function_told, section_told, layout_told}
use Rattle.paper.specs.rules.Layout.{tag_ok}
use Rattle.paper.specs.rules.Table.{Record, kind_of}

-- the six rules, by what each asks of its kinds
abbrev pub by_kind : ℕ → Bool → Bool → Bool → Bool → Bool → Bool → Bool
by_kind k members array variable function tag section =
    (not (member k (STRUCT ∷ UNION ∷ [])) || members)
    && (differ k ARRAY || array)
    && (differ k VAR || variable)
    && (differ k FUNC || function)
    && (differ k DECL_TAG || tag)
    && (differ k DATASEC || section)

-- a rule that does not speak of a kind lets it pass
module _ (X : Recalled) (r : Record) {k : ℕ} (kind : k ≡ kind_of r) where
  abbrev by : ℕ → Bool
  by j = by_kind j (members_told X r) (array_told X r) (variable_told X r.third) (function_told X r) (tag_ok X.table r) (section_told X r)

  by-kind : by k ≡ layout_told X r
  unfolding layout_told
  by-kind = ap by kind

  pub layout-struct : k ≡ STRUCT → {x : Bool} → x ≡ members_told X r → x ≡ layout_told X r
  layout-struct e d = d ∙ sym (ap by e ∙ simp and-nothing) ∙ by-kind

  pub layout-union : k ≡ UNION → {x : Bool} → x ≡ members_told X r → x ≡ layout_told X r
  layout-union e d = d ∙ sym (ap by e ∙ simp and-nothing) ∙ by-kind

  pub layout-array : k ≡ ARRAY → {x : Bool} → x ≡ array_told X r → x ≡ layout_told X r
  layout-array e d = d ∙ sym (ap by e ∙ simp and-nothing) ∙ by-kind

  pub layout-var : k ≡ VAR → {x : Bool} → x ≡ variable_told X r.third → x ≡ layout_told X r
  layout-var e d = d ∙ sym (ap by e ∙ simp and-nothing) ∙ by-kind

  pub layout-func : k ≡ FUNC → {x : Bool} → x ≡ function_told X r → x ≡ layout_told X r
  layout-func e d = d ∙ sym (ap by e ∙ simp and-nothing) ∙ by-kind

  pub layout-tag : k ≡ DECL_TAG → {x : Bool} → x ≡ tag_ok X.table r → x ≡ layout_told X r
  layout-tag e d = d ∙ sym (ap by e ∙ simp and-nothing) ∙ by-kind

  pub layout-section : k ≡ DATASEC → {x : Bool} → x ≡ section_told X r → x ≡ layout_told X r
  layout-section e d = d ∙ sym (ap by e) ∙ by-kind

  pub layout-other : (k ≡ ARRAY → ⊥) → (k ≡ STRUCT → ⊥) → (k ≡ UNION → ⊥) → (k ≡ FUNC → ⊥) → (k ≡ VAR → ⊥) → (k ≡ DATASEC → ⊥) → (k ≡ DECL_TAG → ⊥)
      → true ≡ layout_told X r
  layout-other a s u f v d t =
      sym (rw (ne_eqb k STRUCT s, ne_eqb k UNION u, ne_eqb k ARRAY a, ne_eqb k VAR v, ne_eqb k FUNC f, ne_eqb k DECL_TAG t, ne_eqb k DATASEC d) refl) ∙ by-kind
