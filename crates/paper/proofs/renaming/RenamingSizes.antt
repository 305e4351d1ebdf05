-- The renaming law for exact sizes and bases: a type and its renamed type have the same size, and renamed bases.
-- Assumes nothing.
use Prim.Native.Nat.{ℕ, zero, suc, ◌≤◌}
use mathlib.Core.Path.{◌≡◌, refl, sym, ap, ap₂, ◌∙◌}
use mathlib.Core.Bool.{true, false}
use mathlib.Core.List.{List, [], ◌∷◌}
use borrow.Author.Tests.{eqb-true, eqb-false}
use lib.Dec.{eqb-suc-zero}
use lib.ListN.{get_or}
use Rattle.paper.proofs.basics.Choices.{and_left, and_right}
use Rattle.paper.proofs.renaming.Renaming.{Renaming}
use Rattle.paper.proofs.basics.Rows.{is_held, is_number, number-kept, held-renamed, size_roles, row_of-size_roles}
use Rattle.paper.proofs.walks.Sizes.{next, size_by-enough, next-inside, never-far}
use Rattle.paper.specs.rules.Chain.{endless}
use Rattle.paper.specs.rules.Kind.{SizeRule, eight, size_word, count_times, referent, no_size, Role, names, refers, holds, number, row_of}
use Rattle.paper.specs.rules.References.{refs_ok}
use Rattle.paper.specs.rules.Rename.{rename_word, rename_words, rename}
use Rattle.paper.specs.rules.Size.{Step, is, many_of, sizeless, lost, Found, too_far, step_by, scale, go_on, size_by, step_in, size_found, exact_size}
use Rattle.paper.specs.rules.Table.{Record, Table, count, record_at, kind_of, vlen_of, tail_roles}

-- a step that goes on to the renamed type
abbrev rename_step : (ℕ → ℕ) → Step → Step
rename_step type (is s) = is s
rename_step type (many_of n u) = many_of n (type u)
rename_step type sizeless = sizeless
rename_step type lost = lost

module _ (type name : ℕ → ℕ) (type-0 : type 0 ≡ 0) (name-0 : name 0 ≡ 0) where
  rename_word-0 : (ρ : Role) → rename_word type name ρ 0 ≡ 0
  rename_word-0 (names rule) = name-0
  rename_word-0 (refers rule) = type-0
  rename_word-0 (holds rule) = type-0
  rename_word-0 number = refl

  -- a renamed word, by its place
  pub get_d-rename : (i : ℕ) (ρs : List Role) (ws : List ℕ)
      → get_or (rename_words type name ρs ws) i 0 ≡ rename_word type name (get_or ρs i number) (get_or ws i 0)
  get_d-rename i [] ws = refl
  get_d-rename i (ρ ∷ ρs) [] = sym (rename_word-0 (get_or (ρ ∷ ρs) i number))
  get_d-rename zero (ρ ∷ ρs) (w ∷ ws) = refl
  get_d-rename (suc i) (ρ ∷ ρs) (w ∷ ws) = get_d-rename i ρs ws

step_by-rename : (type name : ℕ → ℕ) (s : SizeRule) (ρ₃ ρ₀ ρ₂ : Role) (third element n : ℕ) → size_roles s ρ₃ ρ₀ ρ₂ ≡ true
    → step_by s (rename_word type name ρ₃ third) (rename_word type name ρ₀ element) (rename_word type name ρ₂ n) ≡ rename_step type (step_by s third element n)
step_by-rename type name eight ρ₃ ρ₀ ρ₂ third element n h = refl
step_by-rename type name size_word ρ₃ ρ₀ ρ₂ third element n h = ap is (number-kept type name ρ₃ third h)
step_by-rename type name count_times ρ₃ ρ₀ ρ₂ third element n h =
    ap₂ many_of (number-kept type name ρ₂ n (and_right (is_held ρ₀) (is_number ρ₂) h)) (held-renamed type name ρ₀ element (and_left (is_held ρ₀) (is_number ρ₂) h))
step_by-rename type name referent ρ₃ ρ₀ ρ₂ third element n h = ap (many_of 1) (held-renamed type name ρ₃ third h)
step_by-rename type name no_size ρ₃ ρ₀ ρ₂ third element n h = refl

module _ {A B : Table} {type name : ℕ → ℕ} (R : Renaming A B type name) where
  pub type-0 : type 0 ≡ 0
  type-0 = eqb-true (type 0) 0 (R.type_zero 0)

  pub name-0 : name 0 ≡ 0
  name-0 = eqb-true (name 0) 0 (R.name_zero 0)

  step_in-rename : (t : ℕ) → t ≤ count A → step_in B (type t) ≡ rename_step type (step_in A t)
  unfolding step_in rename tail_roles
  step_in-rename t h =
      let r = record_at A t in
      let row = row_of (kind_of r) in
      ap (λ (q : Record). step_by (row_of (kind_of q)).size q.third (get_or q.tail 0 0) (get_or q.tail 2 0)) (R.same_record t h)
      ∙ ap₂ (step_by row.size (rename_word type name row.third_role r.third))
      (get_d-rename type name type-0 name-0 0 (tail_roles r) r.tail) (get_d-rename type name type-0 name-0 2 (tail_roles r) r.tail)
      ∙ step_by-rename type name row.size row.third_role (get_or (tail_roles r) 0 number) (get_or (tail_roles r) 2 number)
      r.third (get_or r.tail 0 0) (get_or r.tail 2 0) (row_of-size_roles (kind_of r) (vlen_of r))

  type-suc : (t : ℕ) → type (suc t) ≡ 0 → ⊥
  type-suc t = eqb-false (type (suc t)) 0 (R.type_zero (suc t) ∙ eqb-suc-zero t)

-- ── reading on, of a type that is not void ──

module _ (step : ℕ → Step) where
  size_by-end : (t : ℕ) → (t ≡ 0 → ⊥) → size_by step 0 t ≡ too_far
  size_by-end zero h = absurd (h refl)
  size_by-end (suc t) h = refl

  size_by-on : (k t : ℕ) → (t ≡ 0 → ⊥) → size_by step (suc k) t ≡ go_on (step t) (λ (u : ℕ). size_by step k u)
  size_by-on k zero h = absurd (h refl)
  size_by-on k (suc t) h = refl

go_on-rename : (type : ℕ → ℕ) (s : Step) (f g : ℕ → Found) → f (type (next s)) ≡ g (next s) → go_on (rename_step type s) f ≡ go_on s g
go_on-rename type (is s) f g h = refl
go_on-rename type (many_of n u) f g h = ap (scale n) h
go_on-rename type sizeless f g h = refl
go_on-rename type lost f g h = refl

module _ {A B : Table} {type name : ℕ → ℕ} (R : Renaming A B type name) (refs : (t : ℕ) → 1 ≤ t → t ≤ count A → refs_ok A (record_at A t) ≡ true) where
  size_by-rename : (k t : ℕ) → t ≤ count A → size_by (step_in B) k (type t) ≡ size_by (step_in A) k t
  size_by-rename zero zero h = ap (size_by (step_in B) 0) (type-0 R)
  size_by-rename zero (suc t) h = size_by-end (step_in B) (type (suc t)) (type-suc R t)
  size_by-rename (suc k) zero h = ap (size_by (step_in B) (suc k)) (type-0 R)
  size_by-rename (suc k) (suc t) h =
      size_by-on (step_in B) k (type (suc t)) (type-suc R t)
      ∙ ap (λ (s : Step). go_on s (λ (u : ℕ). size_by (step_in B) k u)) (step_in-rename R (suc t) h)
      ∙ go_on-rename type (step_in A (suc t)) (λ (u : ℕ). size_by (step_in B) k u) (λ (u : ℕ). size_by (step_in A) k u)
      (size_by-rename k (next (step_in A (suc t))) (next-inside A refs (suc t)))

  module _ (ends : (t : ℕ) → 1 ≤ t → t ≤ count A → endless A t ≡ false) where
    -- every type has the size of its renamed type, be it exact, none, or above all bounds
    pub exact_size-rename : (t : ℕ) → t ≤ count A → exact_size B (type t) ≡ exact_size A t
    unfolding exact_size
    exact_size-rename t h =
        ap size_found (size_by-rename (count B) t h ∙ size_by-enough (step_in A) t R.fewer (never-far A ends t h))
