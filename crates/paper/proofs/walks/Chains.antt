-- Laws of walks over steps of any sort: fewer steps are easier, and new numbers change nothing; and of the two sorts of step.
-- Assumes nothing.
use Prim.Native.Nat.{ℕ, zero, suc, ◌+◌, ◌-◌, ◌≤◌, ◌<◌, suc-le-suc}
use mathlib.Core.Path.{◌≡◌, refl, sym, ap, ap₂, ◌∙◌, subst}
use mathlib.Core.Bool.{Bool, true, false, cond, ◌||◌, false≢true}
use mathlib.Core.List.{List, [], ◌∷◌, map}
use native.Mathlib.Nat.{zero-add, suc-add, sub-add_cancel, le_of_suc-le-suc}
use borrow.Author.Tests.{leb-true}
use lib.Dec.{eqb}
use Rattle.paper.proofs.basics.Choices.{and_left, and_right, or_left, or_right, or_cases, or-false, false-or, any-map}
use Rattle.paper.proofs.basics.Rows.{reference-renamed, link-third}
use Rattle.paper.proofs.renaming.Renaming.{Renaming, inside, Inside, reference-inside, kind_at-rename}
use Rattle.paper.specs.rules.Chain.{step_to, held_word, held_in, held_by, is_link, pointed_by, walks, endless}
use Rattle.paper.specs.rules.Choice.{any}
use Rattle.paper.specs.terms.Fit.{Below}
use Rattle.paper.specs.rules.Kind.{Role, names, refers, holds, number}
use Rattle.paper.specs.rules.Rename.{rename_word, rename_words, rename}
use Rattle.paper.specs.rules.Table.{Record, Table, count, record_at, kind_of, kind_at, row_in, tail_roles, roles_of, words_of, every_roled, every_word}

-- ── some element passes ──

any-mono : (f g : ℕ → Bool) (us : List ℕ) → ((u : ℕ) → f u ≡ true → g u ≡ true) → any f us ≡ true → any g us ≡ true
any-mono f g [] h e = absurd (false≢true e)
any-mono f g (u ∷ us) h e =
    or_cases (f u) (any f us) e (λ p. or_left (any g us) (h u p)) (λ q. or_right (g u) (any-mono f g us h q))

any_same : (n : ℕ) (f g : ℕ → Bool) (us : List ℕ) → Below n us → ((u : ℕ) → u < n → f u ≡ g u) → any f us ≡ any g us
any_same n f g [] b h = refl
any_same n f g (u ∷ us) b h = ap₂ ◌||◌ (h u b.0) (any_same n f g us b.1 h)

-- ── fewer steps are easier ──

module _ (step : ℕ → List ℕ) where
  pub walks-fewer : (m t : ℕ) → walks step (suc m) t ≡ true → walks step m t ≡ true
  walks-fewer zero t e = refl
  walks-fewer (suc m) t e = any-mono (walks step (suc m)) (walks step m) (step t) (walks-fewer m) e

  walks-fewer-by : (d m t : ℕ) → walks step (d + m) t ≡ true → walks step m t ≡ true
  walks-fewer-by zero m t e = rw zero-add at e
  walks-fewer-by (suc d) m t e = walks-fewer-by d m t (walks-fewer (d + m) t (rw suc-add at e))

  pub walks-le : {m k : ℕ} (t : ℕ) → m ≤ k → walks step k t ≡ true → walks step m t ≡ true
  walks-le {m} {k} t h e = walks-fewer-by (k - m) m t (rw (sub-add_cancel h) e)

  -- no walk, no longer walk
  pub walks-longer : {m k : ℕ} (t : ℕ) → m ≤ k → walks step m t ≡ false → walks step k t ≡ false
  walks-longer {m} {k} t h e = go (walks step k t) refl
    where
      go : (b : Bool) → walks step k t ≡ b → b ≡ false
      go true x = absurd (false≢true (sym e ∙ walks-le t h x))
      go false x = refl

-- ── new numbers ──

-- where types 0 to n lead to types up to n, and under their new numbers to the same types, a walk of any length is there for both alike
module _ (f g : ℕ → List ℕ) (new : ℕ → ℕ) (n : ℕ)
    (inside : (t : ℕ) → t ≤ n → Below (suc n) (f t)) (same : (t : ℕ) → t ≤ n → g (new t) ≡ map new (f t)) where
  pub walks-map : (m t : ℕ) → t ≤ n → walks g m (new t) ≡ walks f m t
  walks-map zero t h = refl
  walks-map (suc m) t h =
      ap (any (walks g m)) (same t h)
      ∙ any-map (walks g m) new (f t)
      ∙ any_same (suc n) (λ (u : ℕ). walks g m (new u)) (walks f m) (f t) (inside t h)
      (λ u le. walks-map m u (le_of_suc-le-suc le))

-- ── of which types 14 says nothing ──

-- there is no walk of n steps of either sort
module _ (T : Table) (t : ℕ) (e : endless T t ≡ false) where
  pub ends-pointed : walks (pointed_by T) (count T) t ≡ false
  unfolding endless
  ends-pointed = (or-false (walks (held_by T) (count T) t) (walks (pointed_by T) (count T) t) e).1

  pub ends_held : walks (held_by T) (count T) t ≡ false
  unfolding endless
  ends_held = (or-false (walks (held_by T) (count T) t) (walks (pointed_by T) (count T) t) e).0

-- ── the second sort of step ──

module _ (T : Table) (t : ℕ) where
  -- from a type of none of the six kinds, a struct's say, there is none
  pub pointed_by-none : is_link (kind_at T t) ≡ false → pointed_by T t ≡ []
  unfolding pointed_by
  pointed_by-none e = rw e refl

  -- from one of them it leads to the third word, if anywhere
  pub pointed_by-link : is_link (kind_at T t) ≡ true → pointed_by T t ≡ step_to (record_at T t).third []
  unfolding pointed_by
  pointed_by-link e = rw e refl

  pub pointed_by-cases : (P : List ℕ → Type 0) → (is_link (kind_at T t) ≡ true → P (step_to (record_at T t).third []))
      → (is_link (kind_at T t) ≡ false → P []) → P (pointed_by T t)
  pointed_by-cases P f g = go (is_link (kind_at T t)) refl
    where
      go : (b : Bool) → is_link (kind_at T t) ≡ b → P (pointed_by T t)
      go true e = subst P (sym (pointed_by-link e)) (f e)
      go false e = subst P (sym (pointed_by-none e)) (g e)

-- ── a step stays inside the table, where the record's words do ──

step_to-below : {n : ℕ} (w : ℕ) (us : List ℕ) → w ≤ n → Below (suc n) us → Below (suc n) (step_to w us)
step_to-below {n} w us h b = go (eqb w 0)
  where
    go : (z : Bool) → Below (suc n) (cond z us (w ∷ us))
    go true = b
    go false = (suc-le-suc h, b)

held_word-below : (A : Table) (ρ : Role) (w : ℕ) (us : List ℕ) → inside A ρ w ≡ true → Below (suc (count A)) us
    → Below (suc (count A)) (held_word ρ w us)
held_word-below A (names rule) w us h b = b
held_word-below A (refers rule) w us h b = b
held_word-below A number w us h b = b
held_word-below A (holds rule) w us h b = step_to-below w us (leb-true w (count A) h) b

held_in-below : (A : Table) (ρs : List Role) (ws : List ℕ) → every_roled (inside A) ρs ws ≡ true → Below (suc (count A)) (held_in ρs ws)
held_in-below A [] ws e = tt
held_in-below A (ρ ∷ ρs) [] e = tt
held_in-below A (ρ ∷ ρs) (w ∷ ws) e =
    held_word-below A ρ w (held_in ρs ws) (and_left (inside A ρ w) (every_roled (inside A) ρs ws) e)
    (held_in-below A ρs ws (and_right (inside A ρ w) (every_roled (inside A) ρs ws) e))

pub held_by-below : (A : Table) (t : ℕ) → Inside A (record_at A t) → Below (suc (count A)) (held_by A t)
unfolding held_by
held_by-below A t h = held_in-below A (roles_of (record_at A t)) (words_of (record_at A t)) h

-- a test that every word passes is passed by the third
pub third-word : (f : Role → ℕ → Bool) (r : Record) → every_word f r ≡ true → f (row_in r).third_role r.third ≡ true
third-word f r e =
    and_left _ (every_roled f (tail_roles r) r.tail) (and_right (f number r.info) _ (and_right (f (names (row_in r).name) r.name_off) _ e))

link-inside : (A : Table) (r : Record) → Inside A r → is_link (kind_of r) ≡ true → r.third ≤ count A
link-inside A r h e = reference-inside A (row_in r).third_role r.third (link-third (kind_of r) e) (third-word (inside A) r h)

pub pointed_by-below : (A : Table) (t : ℕ) → Inside A (record_at A t) → Below (suc (count A)) (pointed_by A t)
pointed_by-below A t h =
    pointed_by-cases A t (Below (suc (count A)))
    (λ e. step_to-below (record_at A t).third [] (link-inside A (record_at A t) h e) tt) (λ e. tt)

-- ── renaming ──

module _ {A B : Table} {type name : ℕ → ℕ} (R : Renaming A B type name) where
  step_to-rename : (w : ℕ) (us : List ℕ) → step_to (type w) (map type us) ≡ map type (step_to w us)
  step_to-rename w us = ap (λ (z : Bool). cond z (map type us) (type w ∷ map type us)) (R.type_zero w) ∙ go (eqb w 0)
    where
      go : (z : Bool) → cond z (map type us) (type w ∷ map type us) ≡ map type (cond z us (w ∷ us))
      go true = refl
      go false = refl

  held_word-rename : (ρ : Role) (w : ℕ) (us : List ℕ) → held_word ρ (rename_word type name ρ w) (map type us) ≡ map type (held_word ρ w us)
  held_word-rename (names rule) w us = refl
  held_word-rename (refers rule) w us = refl
  held_word-rename number w us = refl
  held_word-rename (holds rule) w us = step_to-rename w us

  held_in-rename : (ρs : List Role) (ws : List ℕ) → held_in ρs (rename_words type name ρs ws) ≡ map type (held_in ρs ws)
  held_in-rename [] ws = refl
  held_in-rename (ρ ∷ ρs) [] = refl
  held_in-rename (ρ ∷ ρs) (w ∷ ws) =
      ap (held_word ρ (rename_word type name ρ w)) (held_in-rename ρs ws) ∙ held_word-rename ρ w (held_in ρs ws)

  pub held_by-rename : (t : ℕ) → t ≤ count A → held_by B (type t) ≡ map type (held_by A t)
  unfolding held_by rename tail_roles
  held_by-rename t h =
      ap (λ (r : Record). held_in (roles_of r) (words_of r)) (R.same_record t h)
      ∙ held_in-rename (roles_of (record_at A t)) (words_of (record_at A t))

  link-rename : (t : ℕ) → t ≤ count A → is_link (kind_at A t) ≡ true → (record_at B (type t)).third ≡ type (record_at A t).third
  unfolding rename
  link-rename t h e =
      ap (λ (r : Record). r.third) (R.same_record t h)
      ∙ reference-renamed type name (row_in (record_at A t)).third_role (record_at A t).third (link-third (kind_at A t) e)

  pub pointed_by-rename : (t : ℕ) → t ≤ count A → pointed_by B (type t) ≡ map type (pointed_by A t)
  pointed_by-rename t h =
      let k = ap is_link (kind_at-rename R t h) in
      pointed_by-cases A t (λ (us : List ℕ). pointed_by B (type t) ≡ map type us)
      (λ e. pointed_by-link B (type t) (k ∙ e) ∙ ap (λ (w : ℕ). step_to w []) (link-rename t h e) ∙ step_to-rename (record_at A t).third [])
      (λ e. pointed_by-none B (type t) (k ∙ e))

  module _ (in-A : (t : ℕ) → t ≤ count A → Inside A (record_at A t)) where
    -- a walk of any length, of either sort, is there for a type and for its renamed type alike
    pub held-walks-rename : (m t : ℕ) → t ≤ count A → walks (held_by B) m (type t) ≡ walks (held_by A) m t
    held-walks-rename = walks-map (held_by A) (held_by B) type (count A) (λ t h. held_by-below A t (in-A t h)) held_by-rename

    pub pointed-walks-rename : (m t : ℕ) → t ≤ count A → walks (pointed_by B) m (type t) ≡ walks (pointed_by A) m t
    pointed-walks-rename = walks-map (pointed_by A) (pointed_by B) type (count A) (λ t h. pointed_by-below A t (in-A t h)) pointed_by-rename

    -- so where 14 says nothing of a type, it says nothing of its renamed type
    pub endless-rename : (t : ℕ) → t ≤ count A → endless A t ≡ false → endless B (type t) ≡ false
    unfolding endless
    endless-rename t h e =
        false-or (held-walks-rename (count B) t h ∙ walks-longer (held_by A) t R.fewer (ends_held A t e))
        (pointed-walks-rename (count B) t h ∙ walks-longer (pointed_by A) t R.fewer (ends-pointed A t e))
