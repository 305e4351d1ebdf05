-- Laws of arrays, functions and tags, by what is read of their records and of those that they point at.
-- Assumes nothing.
use Prim.Native.Nat.{ℕ}
use mathlib.Core.Path.{◌≡◌, refl, sym, ap, ◌∙◌}
use mathlib.Core.Bool.{Bool, true, false, not, cond, ◌&&◌, ◌||◌}
use mathlib.Core.List.{[], ◌∷◌}
use borrow.Author.Tests.{eq-eqb, ne_eqb, not-true, not-false}
use lib.Dec.{eqb, ltb}
use lib.ListN.{get_or}
use Rattle.paper.specs.rules.Choice.{is_some, member}
use Rattle.paper.specs.rules.KindNo.{STRUCT, UNION, FUNC, FUNC_PROTO}
use Rattle.layout.specs.Told.{Recalled, sized, array_told, named_told, function_told}
use Rattle.paper.specs.rules.Layout.{all_named, components_of, tag_ok}
use Rattle.paper.specs.rules.Span.{is_regular}
use Rattle.paper.specs.rules.Table.{Record, Table, record_at, kind_of, vlen_of}
use Rattle.paper.specs.rules.Tails.{parameters_of}
use Rattle.recall.specs.Recall.{told}

-- ── arrays ──

module _ (X : Recalled) (r : Record) {w : ℕ} (element : w ≡ get_or r.tail 0 0) {x : Bool} (has : x ≡ is_some (sized X w)) where
  abbrev array : Bool → Bool
  array t = t && is_regular (record_at X.table (get_or r.tail 1 0))

  by_size : array x ≡ array_told X r
  unfolding array_told
  by_size = ap array (has ∙ ap (λ (t : ℕ). is_some (sized X t)) element)

  pub array-sizeless : not x ≡ true → false ≡ array_told X r
  array-sizeless e = sym (ap array (not-true x e)) ∙ by_size

  pub array-index : not x ≡ false → {i : ℕ} → i ≡ get_or r.tail 1 0 → (q : Record) → q ≡ record_at X.table i → {y : Bool} → y ≡ is_regular q → y ≡ array_told X r
  array-index e index q is d =
      d ∙ ap is_regular (is ∙ ap (record_at X.table) index) ∙ sym (ap array (not-false x e)) ∙ by_size

-- ── functions ──

module _ (X : Recalled) (r : Record) {w : ℕ} (third : w ≡ r.third) (q : Record) (is : q ≡ record_at X.table w) {k : ℕ} (kind : k ≡ kind_of q) where
  abbrev named : Bool → Bool
  named z = cond z (eqb (told X.memo w) 0) (all_named (parameters_of (record_at X.table w)))

  by-proto : {z : Bool} → eqb k FUNC_PROTO ≡ z → function_told X r ≡ named z
  unfolding function_told
  by-proto e = sym (ap (named_told X) third) ∙ ap named (ap (λ (p : Record). eqb (kind_of p) FUNC_PROTO) (sym is) ∙ ap (λ (j : ℕ). eqb j FUNC_PROTO) (sym kind) ∙ e)

  pub function-told : k ≡ FUNC_PROTO → {c : ℕ} → c ≡ told X.memo w → eqb c 0 ≡ function_told X r
  function-told e d = ap (λ (j : ℕ). eqb j 0) d ∙ sym (by-proto (eq-eqb k FUNC_PROTO e))

  pub function-names : (k ≡ FUNC_PROTO → ⊥) → {x : Bool} → x ≡ all_named (parameters_of q) → x ≡ function_told X r
  function-names n d = d ∙ ap (λ (p : Record). all_named (parameters_of p)) is ∙ sym (by-proto (ne_eqb k FUNC_PROTO n))

module _ (T : Table) (r : Record) where
  -- ── tags ──

  module _ {k : ℕ} (kind : k ≡ kind_of r) where
    abbrev components : ℕ → ℕ
    components j = cond (member j (STRUCT ∷ UNION ∷ [])) (vlen_of r) (cond (eqb j FUNC) (vlen_of (record_at T r.third)) 0)

    by-kind : components k ≡ components_of T r
    unfolding components_of
    by-kind = ap components kind

    pub components-struct : k ≡ STRUCT → {v : ℕ} → v ≡ vlen_of r → v ≡ components_of T r
    components-struct e d = d ∙ sym (ap components e) ∙ by-kind

    pub components-union : k ≡ UNION → {v : ℕ} → v ≡ vlen_of r → v ≡ components_of T r
    components-union e d = d ∙ sym (ap components e) ∙ by-kind

    module _ (no-struct : k ≡ STRUCT → ⊥) (no-union : k ≡ UNION → ⊥) where
      by-func : cond (eqb k FUNC) (vlen_of (record_at T r.third)) 0 ≡ components_of T r
      by-func = sym (rw (ne_eqb k STRUCT no-struct, ne_eqb k UNION no-union) refl) ∙ by-kind

      pub components-none : (k ≡ FUNC → ⊥) → 0 ≡ components_of T r
      components-none n = sym (ap (λ (t : Bool). cond t (vlen_of (record_at T r.third)) 0) (ne_eqb k FUNC n)) ∙ by-func

      pub components-func : k ≡ FUNC → {w : ℕ} → w ≡ r.third → (q : Record) → q ≡ record_at T w → {v : ℕ} → v ≡ vlen_of q → v ≡ components_of T r
      components-func e third q is d =
          d
          ∙ ap vlen_of (is ∙ ap (record_at T) third)
          ∙ sym (ap (λ (t : Bool). cond t (vlen_of (record_at T r.third)) 0) (eq-eqb k FUNC e))
          ∙ by-func

  module _ {c : ℕ} (component : c ≡ get_or r.tail 0 0) where
    abbrev tag : ℕ → Bool → Bool
    tag x t = t || ltb x (components_of T (record_at T r.third))

    by-component : tag c (eqb c 4294967295) ≡ tag_ok T r
    unfolding tag_ok
    by-component = ap (λ (x : ℕ). tag x (eqb x 4294967295)) component

    pub tag-whole : c ≡ 4294967295 → true ≡ tag_ok T r
    tag-whole e = sym (ap (tag c) (eq-eqb c 4294967295 e)) ∙ by-component

    pub tag-part : (c ≡ 4294967295 → ⊥) → {w : ℕ} → w ≡ r.third → (q : Record) → q ≡ record_at T w → {n : ℕ} → n ≡ components_of T q → ltb c n ≡ tag_ok T r
    tag-part apart third q is d =
        ap (ltb c) (d ∙ ap (components_of T) (is ∙ ap (record_at T) third)) ∙ sym (ap (tag c) (ne_eqb c 4294967295 apart)) ∙ by-component
