-- The way of a search that follows references depth first, from its root to where it stands: each type on it leads to the next. Over references of any sort.
-- Assumes nothing.
use Prim.Native.Nat.{ℕ, zero, suc, ◌≤◌, ◌<◌}
use mathlib.Core.Path.{◌≡◌, refl, sym, ap, ◌∙◌, subst}
use mathlib.Core.Bool.{Bool, true, false, false≢true}
use mathlib.Core.List.{List, [], ◌∷◌, Memᴰ}
use mathlib.Core.Logic.{◌⊎◌, inl, inr, ⊎_elim}
use native.Mathlib.Omega.{arith}
use borrow.Author.Tests.{eqb-true, eqb-false}
use lib.Dec.{eqb}
use lib.ListN.{length, get_or, set}
use lib.Seq.{get_or-set_same, get_or-set_other}
use Rattle.paper.specs.rules.Chain.{walks, Chain}
use Rattle.paper.specs.rules.Limits.{type_limit}
use Rattle.paper.proofs.walks.Endless.{any-holds, chain-walks, walks-chain}
use Rattle.links.specs.Search.{as_root, many_slots, mark_of}
use Rattle.recall.specs.Recall.{first_telling}

-- ── marks ──

-- the mark of a type on the way is below that of any that is done: 1 + 16,384 * 65,536 + 65,535 is below 2^30 + 2^17
pub mark-fits : {p k : ℕ} → p ≤ type_limit → k < many_slots → mark_of p k < first_telling
mark-fits low small = omega arith

-- ── a place set, and the others ──

-- a place is the one that was set, or is as it was
pub get_d_set : (work : List ℕ) (u v x : ℕ) → u < length work
    → ((x ≡ u) × (get_or (set work u v) x 0 ≡ v)) ⊎ ((x ≡ u → ⊥) × (get_or (set work u v) x 0 ≡ get_or work x 0))
get_d_set work u v x h = go (eqb x u) refl
  where
    go : (b : Bool) → eqb x u ≡ b → ((x ≡ u) × (get_or (set work u v) x 0 ≡ v)) ⊎ ((x ≡ u → ⊥) × (get_or (set work u v) x 0 ≡ get_or work x 0))
    go true e =
        let same = eqb-true x u e in
        inl (same, ap (λ (y : ℕ). get_or (set work u v) y 0) same ∙ get_or-set_same work u v 0 h)
    go false e = let other = eqb-false x u e in inr (other, get_or-set_other work u x v 0 other)

-- ── walks ──

module _ (held : ℕ → List ℕ) where
  -- a type whose references all lead to no endless walk leads to none
  pub ends-step : (n : ℕ) → ((t u : ℕ) → Memᴰ u (held t) → (1 ≤ u) × (u ≤ n)) → (t : ℕ) → 1 ≤ t → t ≤ n
      → ((u : ℕ) → Memᴰ u (held t) → walks held n u ≡ false) → walks held n t ≡ false
  ends-step n inside t low high none = go (walks held n t) refl
    where
      later : {s : ℕ} (c : Chain held s) → Chain held (c.at 1)
      later c = record { at = λ i. c.at (suc i); starts = refl; goes_on = λ i. c.goes_on (suc i) }

      go : (b : Bool) → walks held n t ≡ b → b ≡ false
      go false e = refl
      go true e =
          let c = walks-chain held n inside t low high e in
          let next : Memᴰ (c.at 1) (held t) = subst (λ (s : ℕ). Memᴰ (c.at 1) (held s)) c.starts (c.goes_on 0) in
          absurd (false≢true (sym (none (c.at 1) next) ∙ chain-walks (later c) n))

  -- where each of some types leads to one of them, a walk of any length goes on among them
  pub ring-walks : (path : List ℕ) → ((x : ℕ) → Memᴰ x path → (y : ℕ) × Memᴰ y path × Memᴰ y (held x))
      → (m x : ℕ) → Memᴰ x path → walks held m x ≡ true
  ring-walks path next zero x h = refl
  ring-walks path next (suc m) x h =
      let y = next x h in
      any-holds (walks held m) y.0 y.2 (ring-walks path next m y.0 y.1)

-- ── the way ──

module _ (held : ℕ → List ℕ) (done : ℕ → ℕ) (rest : ℕ → ℕ → List ℕ) (n : ℕ) where
  -- t was entered from p, whose references behind slot k are left: those before are done, or are t
  pub record Entered (work : List ℕ) (p k t : ℕ) : Type 0 where
    pub marked : get_or work t 0 ≡ mark_of p k
    pub small : k < many_slots
    pub led : Memᴰ t (held p)
    pub passed : (u : ℕ) → Memᴰ u (held p) → (get_or work u 0 ≡ done u) ⊎ ((u ≡ t) ⊎ Memᴰ u (rest p k))

  -- a way from the root to t, over t's parents, the nearest first; no type stands on it twice
  abbrev pub Way : List ℕ → ℕ → ℕ → List ℕ → Type 0
  Way work root t [] = (t ≡ root) × ((1 ≤ t) × (t ≤ n)) × (get_or work t 0 ≡ as_root)
  Way work root t (p ∷ ps) =
      ((1 ≤ t) × (t ≤ n)) × ((k : ℕ) × Entered work p k t) × (Memᴰ t (p ∷ ps) → ⊥) × Way work root p ps

  pub way-type : (work : List ℕ) (root t : ℕ) (ps : List ℕ) → Way work root t ps → (1 ≤ t) × (t ≤ n)
  way-type work root t [] w = w.1
  way-type work root t (p ∷ ps) w = w.0

  -- the mark of a type on the way is that of none that is new or done
  module _ (few : n ≤ type_limit) where
    pub way-marked : (work : List ℕ) (root t : ℕ) (ps : List ℕ) → Way work root t ps → (1 ≤ get_or work t 0) × (get_or work t 0 < first_telling)
    way-marked work root t [] w = let e = w.2 in (omega arith, omega arith)
    way-marked work root t (p ∷ ps) w =
        let e = w.1.1.marked in
        let small = w.1.1.small in
        let type = way-type work root p ps w.3 in
        let fits = mark-fits {p = p} {k = w.1.0} (omega arith) small in
        (omega arith, omega arith)

    pub way-all-marked : (work : List ℕ) (root t : ℕ) (ps : List ℕ) → Way work root t ps → (x : ℕ) → Memᴰ x (t ∷ ps)
        → (1 ≤ get_or work x 0) × (get_or work x 0 < first_telling)
    way-all-marked work root t [] w x h =
        ⊎_elim (λ (e : x ≡ t). let m = way-marked work root t [] w in let same = ap (λ (y : ℕ). get_or work y 0) e in (omega arith, omega arith))
        (λ m. absurd (mathlib.Core.List.Memᴰ.not-nil m)) (mathlib.Core.List.Memᴰ.cases_cons h)
    way-all-marked work root t (p ∷ ps) w x h =
        ⊎_elim (λ (e : x ≡ t). let m = way-marked work root t (p ∷ ps) w in let same = ap (λ (y : ℕ). get_or work y 0) e in (omega arith, omega arith))
        (λ m. way-all-marked work root p ps w.3 x m) (mathlib.Core.List.Memᴰ.cases_cons h)

  -- other marks, which keep those of the way and what is done, keep the way
  pub way-kept : (work work' : List ℕ) → ((x : ℕ) → get_or work x 0 ≡ done x → get_or work' x 0 ≡ done x)
      → (root t : ℕ) (ps : List ℕ) → ((x : ℕ) → Memᴰ x (t ∷ ps) → get_or work' x 0 ≡ get_or work x 0) → Way work root t ps → Way work' root t ps
  way-kept work work' keeps root t [] same w = (w.0, w.1, same t (mathlib.Core.List.Memᴰ.head refl) ∙ w.2)
  way-kept work work' keeps root t (p ∷ ps) same w =
      let e = w.1.1 in (
        w.0,
        (
          w.1.0,
          record {
            marked = same t (mathlib.Core.List.Memᴰ.head refl) ∙ e.marked;
            small = e.small;
            led = e.led;
            passed = λ u m. ⊎_elim (λ d. inl (keeps u d)) (λ r. inr r) (e.passed u m);
          },
        ),
        w.2,
        way-kept work work' keeps root p ps (λ x m. same x (mathlib.Core.List.Memᴰ.tail m)) w.3,
      )

  -- each type on the way leads to another on it, but for the last
  pub way-onward : (work : List ℕ) (root t : ℕ) (ps : List ℕ) → Way work root t ps → (x : ℕ) → Memᴰ x (t ∷ ps)
      → (x ≡ t) ⊎ ((y : ℕ) × Memᴰ y (t ∷ ps) × Memᴰ y (held x))
  way-onward work root t [] w x h = ⊎_elim (λ e. inl e) (λ m. absurd (mathlib.Core.List.Memᴰ.not-nil m)) (mathlib.Core.List.Memᴰ.cases_cons h)
  way-onward work root t (p ∷ ps) w x h =
      ⊎_elim (λ e. inl e)
      (λ m. ⊎_elim (λ (e : x ≡ p). inr (t, mathlib.Core.List.Memᴰ.head refl, subst (λ (s : ℕ). Memᴰ t (held s)) (sym e) w.1.1.led))
      (λ y. inr (y.0, mathlib.Core.List.Memᴰ.tail y.1, y.2))
      (way-onward work root p ps w.3 x m))
      (mathlib.Core.List.Memᴰ.cases_cons h)

  -- the root is on it
  pub way-root : (work : List ℕ) (root t : ℕ) (ps : List ℕ) → Way work root t ps → Memᴰ root (t ∷ ps)
  way-root work root t [] w = mathlib.Core.List.Memᴰ.head (sym w.0)
  way-root work root t (p ∷ ps) w = mathlib.Core.List.Memᴰ.tail (way-root work root p ps w.3)
