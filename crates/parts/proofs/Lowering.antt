-- A record lowered is what it was before it was raised, and raised again what it was before, where its words point behind the cut or are 0.
-- Assumes nothing.
use Prim.Native.Nat.{ℕ, zero, suc, ◌+◌, ◌-◌, ◌≤◌, ◌<◌}
use mathlib.Core.Path.{◌≡◌, refl, sym, ap₂, ◌∙◌}
use mathlib.Core.Bool.{true}
use mathlib.Core.List.{List, [], ◌∷◌}
use mathlib.Core.Logic.{◌⊎◌, inl, inr}
use native.Mathlib.Omega.{arith}
use borrow.Author.Tests.{eqb-true, leb-true, ltb-true, le-leb, lt-ltb}
use lib.Dec.{eqb, leb, ltb}
use Rattle.parts.specs.Cut.{name_behind, type_behind, points_behind, lowered}
use Rattle.paper.proofs.basics.Choices.{and_left, and_right, and-true, or_cases, or_right}
use Rattle.paper.proofs.renaming.Rename.{raise_zero, rename-id, rename-compose}
use Rattle.paper.specs.rules.Kind.{Role, names, refers, holds, number}
use Rattle.paper.specs.rules.Rename.{rename_word, rename_words, rename, raise}
use Rattle.paper.specs.rules.Table.{Record, row_in, roles_of, tail_roles, words_of, every_roled, every_word}

-- ── a number ──

lower-raise : (by w : ℕ) → raise by w - by ≡ w
lower-raise by zero = omega arith
lower-raise by (suc w) = omega arith

raise-above : (by w : ℕ) → 1 ≤ w → raise by w ≡ w + by
raise-above by zero h = absurd (omega arith)
raise-above by (suc w) h = refl

raise-lower : (by w : ℕ) → (w ≡ 0) ⊎ (by < w) → raise by (w - by) ≡ w
raise-lower by w (inl e) = let z : w - by ≡ 0 = omega arith in raise_zero by z ∙ sym e
raise-lower by w (inr h) = raise-above by (w - by) (omega arith) ∙ omega arith

pub behind-type : (n s w : ℕ) → type_behind n s w ≡ true → (w ≡ 0) ⊎ (n < w)
behind-type n s w e = or_cases (eqb w 0) (ltb n w) e (λ p. inl (eqb-true w 0 p)) (λ q. inr (ltb-true n w q))

pub behind-name : (n s w : ℕ) → 1 ≤ s → name_behind n s w ≡ true → (w ≡ 0) ⊎ (s - 1 < w)
behind-name n s w filled e =
    or_cases (eqb w 0) (leb s w) e (λ p. inl (eqb-true w 0 p)) (λ q. let far = leb-true s w q in inr (omega arith))

raised-type : (n s w : ℕ) → type_behind n s (raise n w) ≡ true
raised-type n s zero = refl
raised-type n s (suc w) = or_right (eqb (suc w + n) 0) (lt-ltb n (suc w + n) (omega arith))

raised-name : (n s w : ℕ) → 1 ≤ s → name_behind n s (raise (s - 1) w) ≡ true
raised-name n s zero filled = refl
raised-name n s (suc w) filled = or_right (eqb (suc w + (s - 1)) 0) (le-leb s (suc w + (s - 1)) (omega arith))

-- ── a record ──

module _ (n s : ℕ) where
  pub lowered-raised : (r : Record) → lowered n s (rename (raise n) (raise (s - 1)) r) ≡ r
  unfolding lowered
  lowered-raised r =
      rename-compose (raise n) (raise (s - 1)) (λ w. w - n) (λ w. w - (s - 1)) r
      ∙ (λ i. rename (λ w. lower-raise n w i) (λ w. lower-raise (s - 1) w i) r)
      ∙ rename-id r

  module _ (filled : 1 ≤ s) where
    word_back : (ρ : Role) (w : ℕ) → points_behind n s ρ w ≡ true
        → rename_word (raise n) (raise (s - 1)) ρ (rename_word (λ v. v - n) (λ v. v - (s - 1)) ρ w) ≡ w
    word_back (names rule) w h = raise-lower (s - 1) w (behind-name n s w filled h)
    word_back (refers rule) w h = raise-lower n w (behind-type n s w h)
    word_back (holds rule) w h = raise-lower n w (behind-type n s w h)
    word_back number w h = refl

    words_back : (ρs : List Role) (ws : List ℕ) → every_roled (points_behind n s) ρs ws ≡ true
        → rename_words (raise n) (raise (s - 1)) ρs (rename_words (λ v. v - n) (λ v. v - (s - 1)) ρs ws) ≡ ws
    words_back [] ws h = refl
    words_back (ρ ∷ ρs) [] h = refl
    words_back (ρ ∷ ρs) (w ∷ ws) h =
        ap₂ {C = List ℕ} ◌∷◌ (word_back ρ w (and_left (points_behind n s ρ w) _ h)) (words_back ρs ws (and_right (points_behind n s ρ w) _ h))

    pub raised-lowered : (r : Record) → every_word (points_behind n s) r ≡ true → rename (raise n) (raise (s - 1)) (lowered n s r) ≡ r
    unfolding lowered rename tail_roles
    raised-lowered r h =
        let f = points_behind n s in
        let behind-first = and_right (f (names (row_in r).name) r.name_off) _ h in
        let behind-info = and_right (f number r.info) _ behind-first in
        λ i. record {
          name_off = raise-lower (s - 1) r.name_off (behind-name n s r.name_off filled (and_left (f (names (row_in r).name) r.name_off) _ h)) i;
          info = r.info;
          third = word_back (row_in r).third_role r.third (and_left (f (row_in r).third_role r.third) _ behind-info) i;
          tail = words_back (tail_roles r) r.tail (and_right (f (row_in r).third_role r.third) _ behind-info) i;
        }

    -- whatever is raised points behind the cut
    word-behind : (ρ : Role) (w : ℕ) → points_behind n s ρ (rename_word (raise n) (raise (s - 1)) ρ w) ≡ true
    word-behind (names rule) w = raised-name n s w filled
    word-behind (refers rule) w = raised-type n s w
    word-behind (holds rule) w = raised-type n s w
    word-behind number w = refl

    words-behind : (ρs : List Role) (ws : List ℕ) → every_roled (points_behind n s) ρs (rename_words (raise n) (raise (s - 1)) ρs ws) ≡ true
    words-behind [] ws = refl
    words-behind (ρ ∷ ρs) [] = refl
    words-behind (ρ ∷ ρs) (w ∷ ws) = and-true (word-behind ρ w) (words-behind ρs ws)

    pub raised-behind : (r : Record) → every_word (points_behind n s) (rename (raise n) (raise (s - 1)) r) ≡ true
    unfolding rename tail_roles
    raised-behind r = words-behind (roles_of r) (words_of r)
