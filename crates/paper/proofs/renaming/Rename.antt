-- Laws of `Rename`: what is raised and what stands; renaming twice is renaming once; a record keeps its shape.
-- Assumes nothing.
use Prim.Native.Nat.{ℕ, zero, suc, ◌+◌}
use mathlib.Core.Path.{◌≡◌, refl, sym, ap, ap₂, ◌∙◌}
use mathlib.Core.List.{List, [], ◌∷◌}
use native.Mathlib.Nat.{suc-add}
use native.Mathlib.Omega.{arith}
use lib.Dec.{eqb, eqb-suc-zero}
use lib.ListN.{length}
use Rattle.paper.specs.rules.Kind.{Role, names, refers, holds, number, rows, row_of}
use Rattle.paper.specs.rules.Rename.{rename_word, rename_words, rename, raise}
use Rattle.paper.specs.rules.Table.{Record, nothing, row_in, tail_roles, words_of}

-- ── raising ──

pub raise_zero : (by : ℕ) {w : ℕ} → w ≡ 0 → raise by w ≡ 0
raise_zero by e = ap (raise by) e

pub raise-other : (by w : ℕ) → (w ≡ 0 → ⊥) → raise by w ≡ w + by
raise-other by zero h = absurd (h refl)
raise-other by (suc w) h = refl

pub raise-eqb : (by w : ℕ) → eqb (raise by w) 0 ≡ eqb w 0
raise-eqb by zero = refl
raise-eqb by (suc w) = ap (λ (n : ℕ). eqb n 0) (suc-add w by) ∙ eqb-suc-zero (w + by) ∙ sym (eqb-suc-zero w)

-- raising twice is raising once
pub raise-raise : (a b w : ℕ) → raise a (raise b w) ≡ raise (a + b) w
raise-raise a b zero = refl
raise-raise a b (suc w) = ap (raise a) (suc-add w b) ∙ raised
  where
    raised : suc (w + b) + a ≡ suc w + (a + b)
    raised = omega arith

-- ── renaming ──

rename_word-id : (ρ : Role) (w : ℕ) → rename_word (λ n. n) (λ n. n) ρ w ≡ w
rename_word-id (names rule) w = refl
rename_word-id (refers rule) w = refl
rename_word-id (holds rule) w = refl
rename_word-id number w = refl

rename_words-id : (ρs : List Role) (ws : List ℕ) → rename_words (λ n. n) (λ n. n) ρs ws ≡ ws
rename_words-id [] ws = refl
rename_words-id (ρ ∷ ρs) [] = refl
rename_words-id (ρ ∷ ρs) (w ∷ ws) = ap₂ {C = List ℕ} ◌∷◌ (rename_word-id ρ w) (rename_words-id ρs ws)

pub rename-id : (r : Record) → rename (λ n. n) (λ n. n) r ≡ r
unfolding rename
rename-id r =
    λ i. record {
      name_off = r.name_off;
      info = r.info;
      third = rename_word-id (row_in r).third_role r.third i;
      tail = rename_words-id (tail_roles r) r.tail i;
    }

module _ (type name : ℕ → ℕ) where
  pub length-rename_words : (ρs : List Role) (ws : List ℕ) → length (rename_words type name ρs ws) ≡ length ws
  length-rename_words [] ws = refl
  length-rename_words (ρ ∷ ρs) [] = refl
  length-rename_words (ρ ∷ ρs) (w ∷ ws) = ap suc (length-rename_words ρs ws)

  pub length-rename : (r : Record) → length (words_of (rename type name r)) ≡ length (words_of r)
  unfolding rename
  length-rename r = ap (λ (n : ℕ). suc (suc (suc n))) (length-rename_words (tail_roles r) r.tail)

  -- void and what is above the count stand
  pub rename-nothing : name 0 ≡ 0 → rename type name nothing ≡ nothing
  unfolding rename tail_roles row_of rows
  rename-nothing e = λ i. record { name_off = e i; info = 0; third = 0; tail = [] }

  module _ (type' name' : ℕ → ℕ) where
    rename_word-compose : (ρ : Role) (w : ℕ)
        → rename_word type' name' ρ (rename_word type name ρ w) ≡ rename_word (λ n. type' (type n)) (λ n. name' (name n)) ρ w
    rename_word-compose (names rule) w = refl
    rename_word-compose (refers rule) w = refl
    rename_word-compose (holds rule) w = refl
    rename_word-compose number w = refl

    rename_words-compose : (ρs : List Role) (ws : List ℕ)
        → rename_words type' name' ρs (rename_words type name ρs ws) ≡ rename_words (λ n. type' (type n)) (λ n. name' (name n)) ρs ws
    rename_words-compose [] ws = refl
    rename_words-compose (ρ ∷ ρs) [] = refl
    rename_words-compose (ρ ∷ ρs) (w ∷ ws) = ap₂ {C = List ℕ} ◌∷◌ (rename_word-compose ρ w) (rename_words-compose ρs ws)

    pub rename-compose : (r : Record) → rename type' name' (rename type name r) ≡ rename (λ n. type' (type n)) (λ n. name' (name n)) r
    unfolding rename tail_roles
    rename-compose r =
        λ i. record {
          name_off = name' (name r.name_off);
          info = r.info;
          third = rename_word-compose (row_in r).third_role r.third i;
          tail = rename_words-compose (tail_roles r) r.tail i;
        }

-- the shift of a record by two joins, one after the other, is one shift: once for all kinds
pub raise-compose : (a b c d : ℕ) (r : Record) → rename (raise a) (raise c) (rename (raise b) (raise d) r) ≡ rename (raise (a + b)) (raise (c + d)) r
raise-compose a b c d r =
    rename-compose (raise b) (raise d) (raise a) (raise c) r
    ∙ (λ i. rename (λ n. raise-raise a b n i) (λ n. raise-raise c d n i) r)
