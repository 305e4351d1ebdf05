-- Where every type of a table is remembered, what is told is right of any number: of void and of numbers above the count too.
-- Assumes nothing.
use Prim.Native.Nat.{ℕ, zero, suc, ◌≤◌, ◌<◌}
use mathlib.Core.Path.{◌≡◌, refl, sym, ap, ◌∙◌}
use mathlib.Core.Bool.{Bool, true, false, cond}
use mathlib.Core.List.{List}
use mathlib.Core.Logic.{◌⊎◌, inl, inr, ⊎_elim}
use mathlib.Core.Option.{none}
use native.Mathlib.Omega.{arith}
use borrow.Author.Tests.{eqb-true, eqb-false, eq-eqb, leb-true, leb-false}
use lib.Dec.{eqb, leb}
use lib.ListN.{get_or}
use Rattle.paper.proofs.walks.Insides.{record_at-outside}
use Rattle.paper.specs.rules.KindNo.{FUNC_PROTO}
use Rattle.paper.specs.rules.Kind.{rows, row_of}
use Rattle.paper.specs.rules.Layout.{all_named}
use Rattle.paper.specs.rules.Size.{Step, sizeless, go_on, size_by, size_found, step_by, step_in, exact_size}
use Rattle.paper.specs.rules.Span.{is_alias, base_from}
use Rattle.paper.specs.rules.Table.{Record, Table, count, record_at, kind_at, kind_of}
use Rattle.paper.specs.rules.Tails.{parameters_of}
use Rattle.recall.proofs.Lines.{OrVoid}
use Rattle.recall.proofs.Recalling.{Kept, base-told, size-told, code_step}
use Rattle.recall.proofs.Steps.{base-own}
use Rattle.recall.specs.Recall.{told, cut_size, base_told, size_at, size_told, step_code, code_at, end_from}

-- a type of the table
abbrev pub Inside : Table → ℕ → Type 0
Inside T t = (1 ≤ t) × (t ≤ count T)

-- any number is one, or void, or above
where-is : (T : Table) (t : ℕ) → OrVoid (Inside T) t ⊎ (count T < t)
where-is T t = go (leb t (count T)) refl (eqb t 0) refl
  where
    go : (a : Bool) → leb t (count T) ≡ a → (z : Bool) → eqb t 0 ≡ z → OrVoid (Inside T) t ⊎ (count T < t)
    go true l true e = inl (inl (eqb-true t 0 e))
    go true l false e = inl (inr (let n = eqb-false t 0 e in low t n, leb-true t (count T) l))
      where
        low : (t : ℕ) → (t ≡ 0 → ⊥) → 1 ≤ t
        low zero n = absurd (n refl)
        low (suc t) n = omega arith
    go false l z e = inr (leb-false t (count T) l)

-- ── a number above the count reads as no kind ──

module _ (T : Table) (t : ℕ) (above : count T < t) where
  kind-above : kind_at T t ≡ 0
  kind-above = ap kind_of (record_at-outside T t above)

  alias-above : is_alias (kind_at T t) ≡ false
  alias-above = ap is_alias kind-above

  step-above : step_in T t ≡ sizeless
  unfolding step_in row_of rows
  step-above =
      ap (λ (r : Record). step_by (row_of (kind_of r)).size r.third (get_or r.tail 0 0) (get_or r.tail 2 0)) (record_at-outside T t above)

-- a prototype has no size
proto-step : (T : Table) (t : ℕ) → kind_at T t ≡ FUNC_PROTO → step_in T t ≡ sizeless
unfolding step_in row_of rows
proto-step T t kind =
    let r = record_at T t in
    ap (λ (k : ℕ). step_by (row_of k).size r.third (get_or r.tail 0 0) (get_or r.tail 2 0)) kind

size_above : (T : Table) (t : ℕ) → count T < t → exact_size T t ≡ none
unfolding exact_size
size_above T zero above = absurd (omega arith)
size_above T (suc t) above = go (count T)
  where
    go : (k : ℕ) → size_found (size_by (step_in T) k (suc t)) ≡ none
    go zero = refl
    go (suc k) = ap (λ (s : Step). size_found (go_on s (λ (u : ℕ). size_by (step_in T) k u))) (step-above T (suc t) above)

-- ── what is told of any number ──

module _ {T : Table} {memo : List ℕ} (kept : Kept T memo (Inside T)) where
  pub base-everywhere : (t : ℕ) → base_told memo T t ≡ base_from T (count T) t
  base-everywhere t =
      ⊎_elim (λ h. base-told kept t h)
      (λ above. let a = alias-above T t above in ap (λ (z : Bool). cond z (told memo t) t) a ∙ sym (base-own T t a))
      (where-is T t)

  size_none : (t : ℕ) → count T < t → size_told memo T t ≡ none
  unfolding size_told
  size_none t above =
      let base : base_told memo T t ≡ t = ap (λ (z : Bool). cond z (told memo t) t) (alias-above T t above) in
      ap (λ (a : ℕ). size_at memo T a (step_in T a)) base ∙ ap (size_at memo T t) (step-above T t above)

  pub size-everywhere : (t : ℕ) → cut_size (size_told memo T t) ≡ cut_size (exact_size T t)
  size-everywhere t =
      ⊎_elim (λ h. size-told kept t h) (λ above. ap cut_size (size_none t above ∙ sym (size_above T t above))) (where-is T t)

  -- a prototype, by its kind alone
  pub named-everywhere : (t : ℕ) → kind_at T t ≡ FUNC_PROTO → eqb (told memo t) 0 ≡ all_named (parameters_of (record_at T t))
  named-everywhere t kind =
      ⊎_elim
      (λ h. ⊎_elim (λ (z : t ≡ 0). absurd (let e = sym (ap (kind_at T) z) ∙ kind in omega arith)) (λ d. inside d) h)
      (λ above. absurd (let e = sym (kind-above T t above) ∙ kind in omega arith))
      (where-is T t)
    where
      coded : code_at T t ≡ cond (all_named (parameters_of (record_at T t))) 0 1
      coded =
          code_step kept t (ap is_alias kind)
          ∙ ap (λ (s : Step). step_code s (end_from T (count T) t) (exact_size T) (record_at T t)) (proto-step T t kind)
          ∙ ap (λ (z : Bool). cond z (cond (all_named (parameters_of (record_at T t))) 0 1) 0) (eq-eqb (kind_at T t) FUNC_PROTO kind)

      by : (z : Bool) → eqb (cond z 0 1) 0 ≡ z
      by true = refl
      by false = refl

      inside : Inside T t → eqb (told memo t) 0 ≡ all_named (parameters_of (record_at T t))
      inside d = ap (λ (k : ℕ). eqb k 0) (kept.right t d ∙ coded) ∙ by (all_named (parameters_of (record_at T t)))
