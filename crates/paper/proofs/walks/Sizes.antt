-- Laws of exact sizes: reads beyond what is enough do not matter, and an accepted table never lacks them.
-- Assumes nothing.
use Prim.Native.Nat.{ℕ, zero, suc, ◌+◌, ◌-◌, ◌≤◌}
use mathlib.Core.Path.{◌≡◌, refl, sym, ap, ◌∙◌, subst}
use mathlib.Core.Bool.{Bool, true, false, cond, false≢true}
use mathlib.Core.List.{List, [], ◌∷◌, Memᴰ}
use native.Mathlib.Nat.{zero-add, suc-add, sub-add_cancel}
use native.Mathlib.Omega.{arith}
use borrow.Author.Tests.{ne_eqb, eqb-true, eqb-false}
use lib.Dec.{eqb}
use lib.ListN.{get_or}
use Rattle.paper.proofs.basics.Choices.{and_left}
use Rattle.paper.proofs.walks.Chains.{ends_held}
use Rattle.paper.proofs.walks.Endless.{any-holds}
use Rattle.paper.proofs.walks.Insides.{held-inside}
use Rattle.paper.proofs.basics.Rows.{is_held, is_number, size_roles, row_of-size_roles}
use Rattle.paper.specs.rules.Chain.{held_word, held_in, held_by, walks, endless}
use Rattle.paper.specs.rules.Kind.{SizeRule, eight, size_word, count_times, referent, no_size, Role, names, refers, holds, number, row_of}
use Rattle.paper.specs.rules.References.{refs_ok}
use Rattle.paper.specs.rules.Size.{Step, is, many_of, sizeless, lost, Found, exactly, none_at, lost_at, too_far, step_by, scale, go_on, size_by, step_in}
use Rattle.paper.specs.rules.Table.{Table, count, record_at, kind_of, vlen_of, tail_roles, roles_of, words_of}

-- ── what is found ──

-- 22 and what else may be found, told apart
abbrev is_far : Found → ℕ
is_far (exactly s) = 0
is_far none_at = 0
is_far lost_at = 0
is_far too_far = 1

far : {x : Found} → x ≡ too_far → is_far x ≡ 1
far e = ap is_far e

scale-far : (n : ℕ) (x : Found) → scale n x ≡ too_far → x ≡ too_far
scale-far n (exactly s) e = let z = far e in absurd (omega arith)
scale-far n none_at e = let z = far e in absurd (omega arith)
scale-far n lost_at e = let z = far e in absurd (omega arith)
scale-far n too_far e = refl

-- ── more reads than are needed ──

module _ (step : ℕ → Step) where
  pub size_by-void : (k : ℕ) → size_by step k 0 ≡ none_at
  size_by-void zero = refl
  size_by-void (suc k) = refl

  go_on-more : (s : Step) (f g : ℕ → Found) → ((u : ℕ) → (f u ≡ too_far → ⊥) → g u ≡ f u) → (go_on s f ≡ too_far → ⊥) → go_on s g ≡ go_on s f
  go_on-more (is s) f g h n = refl
  go_on-more (many_of m u) f g h n = ap (scale m) (h u (λ e. n (ap (scale m) e)))
  go_on-more sizeless f g h n = refl
  go_on-more lost f g h n = refl

  size_by-suc : (k t : ℕ) → (size_by step k t ≡ too_far → ⊥) → size_by step (suc k) t ≡ size_by step k t
  size_by-suc zero zero n = refl
  size_by-suc zero (suc t) n = absurd (n refl)
  size_by-suc (suc k) zero n = refl
  size_by-suc (suc k) (suc t) n =
      go_on-more (step (suc t)) (λ (u : ℕ). size_by step k u) (λ (u : ℕ). size_by step (suc k) u) (λ u m. size_by-suc k u m) n

  size_by-add : (d k t : ℕ) → (size_by step k t ≡ too_far → ⊥) → size_by step (d + k) t ≡ size_by step k t
  size_by-add zero k t n = rw zero-add refl
  size_by-add (suc d) k t n =
      let e = size_by-add d k t n in
      rw suc-add (size_by-suc (d + k) t (λ x. n (sym e ∙ x)) ∙ e)

  pub size_by-enough : {k m : ℕ} (t : ℕ) → k ≤ m → (size_by step k t ≡ too_far → ⊥) → size_by step m t ≡ size_by step k t
  size_by-enough {k} {m} t h n = ap (λ (i : ℕ). size_by step i t) (sym (sub-add_cancel h)) ∙ size_by-add (m - k) k t n

-- ── a step goes on to a type that is held by value ──

pub held_in-get_d : (i : ℕ) (ρs : List Role) (ws : List ℕ) → is_held (get_or ρs i number) ≡ true → (get_or ws i 0 ≡ 0 → ⊥)
    → Memᴰ (get_or ws i 0) (held_in ρs ws)
held_in-get_d i [] ws h n = absurd (false≢true h)
held_in-get_d i (ρ ∷ ρs) [] h n = absurd (n refl)
held_in-get_d zero (names rule ∷ ρs) (w ∷ ws) h n = absurd (false≢true h)
held_in-get_d zero (refers rule ∷ ρs) (w ∷ ws) h n = absurd (false≢true h)
held_in-get_d zero (number ∷ ρs) (w ∷ ws) h n = absurd (false≢true h)
held_in-get_d zero (holds rule ∷ ρs) (w ∷ ws) h n = rw (ne_eqb w 0 n) (Memᴰ.head refl)
held_in-get_d (suc i) (ρ ∷ ρs) (w ∷ ws) h n = later ρ (held_in-get_d i ρs ws h n)
  where
    go : (z : Bool) {u : ℕ} {us : List ℕ} → Memᴰ u us → Memᴰ u (cond z us (w ∷ us))
    go true m = m
    go false m = Memᴰ.tail m

    later : (ρ : Role) {u : ℕ} {us : List ℕ} → Memᴰ u us → Memᴰ u (held_word ρ w us)
    later (names rule) m = m
    later (refers rule) m = m
    later (holds rule) m = go (eqb w 0) m
    later number m = m

-- what a step goes on to
abbrev pub next : Step → ℕ
next (is s) = 0
next (many_of n u) = u
next sizeless = 0
next lost = 0

step_by-held : (s : SizeRule) (ρ₃ ρ₀ ρ₂ : Role) (third element n : ℕ) (us : List ℕ) → size_roles s ρ₃ ρ₀ ρ₂ ≡ true
    → (is_held ρ₃ ≡ true → (third ≡ 0 → ⊥) → Memᴰ third us) → (is_held ρ₀ ≡ true → (element ≡ 0 → ⊥) → Memᴰ element us)
    → (next (step_by s third element n) ≡ 0 → ⊥) → Memᴰ (next (step_by s third element n)) us
step_by-held eight ρ₃ ρ₀ ρ₂ third element n us e h₃ h₀ ne = absurd (ne refl)
step_by-held size_word ρ₃ ρ₀ ρ₂ third element n us e h₃ h₀ ne = absurd (ne refl)
step_by-held count_times ρ₃ ρ₀ ρ₂ third element n us e h₃ h₀ ne = h₀ (and_left (is_held ρ₀) (is_number ρ₂) e) ne
step_by-held referent ρ₃ ρ₀ ρ₂ third element n us e h₃ h₀ ne = h₃ e ne
step_by-held no_size ρ₃ ρ₀ ρ₂ third element n us e h₃ h₀ ne = absurd (ne refl)

pub step-held : (T : Table) (t : ℕ) → (next (step_in T t) ≡ 0 → ⊥) → Memᴰ (next (step_in T t)) (held_by T t)
unfolding step_in held_by tail_roles
step-held T t ne =
    let r = record_at T t in
    let row = row_of (kind_of r) in
    step_by-held row.size row.third_role (get_or (tail_roles r) 0 number) (get_or (tail_roles r) 2 number)
    r.third (get_or r.tail 0 0) (get_or r.tail 2 0) (held_by T t)
    (row_of-size_roles (kind_of r) (vlen_of r))
    (held_in-get_d 2 (roles_of r) (words_of r))
    (held_in-get_d 3 (roles_of r) (words_of r))
    ne

-- ── a size that is never reached is a walk ──

pub far-walks : (T : Table) (k t : ℕ) → size_by (step_in T) k t ≡ too_far → walks (held_by T) k t ≡ true
far-walks T zero t e = refl
far-walks T (suc k) zero e = let z = far e in absurd (omega arith)
far-walks T (suc k) (suc t) e = go (step_in T (suc t)) refl e (far-walks T k)
  where
    go : (s : Step) → step_in T (suc t) ≡ s → go_on s (λ (u : ℕ). size_by (step_in T) k u) ≡ too_far
        → ((u : ℕ) → size_by (step_in T) k u ≡ too_far → walks (held_by T) k u ≡ true) → walks (held_by T) (suc k) (suc t) ≡ true
    go (is s) p q on = let z = far q in absurd (omega arith)
    go sizeless p q on = let z = far q in absurd (omega arith)
    go lost p q on = let z = far q in absurd (omega arith)
    go (many_of n u) p q on =
        let x = scale-far n (size_by (step_in T) k u) q in
        let ne : u ≡ 0 → ⊥ = λ v. let z = far (sym (ap (size_by (step_in T) k) v ∙ size_by-void (step_in T) k) ∙ x) in omega arith in
        any-holds (walks (held_by T) k) u
        (subst (λ (w : ℕ). Memᴰ w (held_by T (suc t))) (ap next p) (step-held T (suc t) (λ v. ne (sym (ap next p) ∙ v)))) (on u x)

-- ── in a table whose references and chains are good ──

module _ (T : Table) (refs : (t : ℕ) → 1 ≤ t → t ≤ count T → refs_ok T (record_at T t) ≡ true) where
  -- a step goes on to a type of the table, or to void
  pub next-inside : (t : ℕ) → next (step_in T t) ≤ count T
  next-inside t = go (eqb (next (step_in T t)) 0) refl
    where
      go : (z : Bool) → eqb (next (step_in T t)) 0 ≡ z → next (step_in T t) ≤ count T
      go true e = let z = eqb-true (next (step_in T t)) 0 e in omega arith
      go false e = (held-inside T refs t (next (step_in T t)) (step-held T t (eqb-false (next (step_in T t)) 0 e))).2.1

module _ (T : Table) (ends : (t : ℕ) → 1 ≤ t → t ≤ count T → endless T t ≡ false) where
  -- as many reads as there are types are enough
  pub never-far : (t : ℕ) → t ≤ count T → size_by (step_in T) (count T) t ≡ too_far → ⊥
  never-far zero h x = let z = far (sym (size_by-void (step_in T) (count T)) ∙ x) in omega arith
  never-far (suc t) h x = false≢true (sym (ends_held T (suc t) (ends (suc t) (omega arith) h)) ∙ far-walks T (count T) (suc t) x)
