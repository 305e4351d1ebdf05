-- Over references of any sort: a chain can be followed for ever from a type exactly where there is a walk of n steps from it.
-- Assumes nothing.
use Prim.Native.Nat.{ℕ, zero, suc, ◌+◌, ◌≤◌, ◌<◌}
use mathlib.Core.Path.{◌≡◌, refl, sym, ap, ◌∙◌}
use mathlib.Core.Bool.{Bool, true, false, cond, false≢true}
use mathlib.Core.List.{List, [], ◌∷◌, Memᴰ}
use mathlib.Core.Logic.{◌⊎◌, inl, inr, ⊎_elim}
use native.Mathlib.Omega.{arith}
use borrow.Author.Tests.{eqb-true, eqb-false}
use lib.Dec.{eqb}
use Rattle.paper.proofs.walks.Chains.{walks-fewer}
use Rattle.paper.proofs.basics.Choices.{or_left, or_right, or_cases}
use Rattle.paper.specs.rules.Chain.{walks, Chain}
use Rattle.paper.specs.rules.Choice.{any}

-- ── some element passes, and which ──

pub any-holds : (f : ℕ → Bool) (u : ℕ) {us : List ℕ} → Memᴰ u us → f u ≡ true → any f us ≡ true
any-holds f u (Memᴰ.head {xs = xs} e) h = or_left (any f xs) (ap f (sym e) ∙ h)
any-holds f u (Memᴰ.tail {x = x} m) h = or_right (f x) (any-holds f u m h)

any-finds : (f : ℕ → Bool) (us : List ℕ) → any f us ≡ true → (u : ℕ) × Memᴰ u us × (f u ≡ true)
any-finds f [] e = absurd (false≢true e)
any-finds f (u ∷ us) e =
    or_cases (f u) (any f us) e (λ p. (u, Memᴰ.head refl, p))
    (λ q. let w = any-finds f us q in (w.0, Memᴰ.tail w.1, w.2))

-- ── a chain gives walks of every length ──

module _ {step : ℕ → List ℕ} {t : ℕ} (c : Chain step t) where
  chain-walks-from : (m i : ℕ) → walks step m (c.at i) ≡ true
  chain-walks-from zero i = refl
  chain-walks-from (suc m) i = any-holds (walks step m) (c.at (suc i)) (c.goes_on i) (chain-walks-from m (suc i))

  pub chain-walks : (m : ℕ) → walks step m t ≡ true
  chain-walks m = ap (walks step m) (sym c.starts) ∙ chain-walks-from m 0

-- ── how many of the types 1 to n pass a test ──

abbrev tally : (ℕ → Bool) → ℕ → ℕ
tally f zero = 0
tally f (suc n) = cond (f (suc n)) (suc (tally f n)) (tally f n)

tally-le : (f : ℕ → Bool) (n : ℕ) → tally f n ≤ n
tally-le f zero = omega arith
tally-le f (suc n) = go (f (suc n)) (tally-le f n)
  where
    go : (b : Bool) → tally f n ≤ n → cond b (suc (tally f n)) (tally f n) ≤ suc n
    go true h = omega arith
    go false h = omega arith

module _ (f g : ℕ → Bool) (weaker : (t : ℕ) → f t ≡ true → g t ≡ true) where
  tally-mono : (n : ℕ) → tally f n ≤ tally g n
  tally-mono zero = omega arith
  tally-mono (suc n) = go (f (suc n)) (g (suc n)) (weaker (suc n)) (tally-mono n)
    where
      go : (a b : Bool) → (a ≡ true → b ≡ true) → tally f n ≤ tally g n → cond a (suc (tally f n)) (tally f n) ≤ cond b (suc (tally g n)) (tally g n)
      go true true w h = omega arith
      go true false w h = absurd (false≢true (w refl))
      go false true w h = omega arith
      go false false w h = h

  -- where as many pass the one as the other, the same do
  tally-same : (n t : ℕ) → tally f n ≡ tally g n → 1 ≤ t → t ≤ n → g t ≡ true → f t ≡ true
  tally-same zero t e low high h = absurd (omega arith)
  tally-same (suc n) t e low high h =
      go (f (suc n)) (g (suc n)) refl refl e (eqb t (suc n)) refl (λ p q. tally-same n t p low q h)
    where
      go : (a b : Bool) → f (suc n) ≡ a → g (suc n) ≡ b → cond a (suc (tally f n)) (tally f n) ≡ cond b (suc (tally g n)) (tally g n)
          → (z : Bool) → eqb t (suc n) ≡ z → (tally f n ≡ tally g n → t ≤ n → f t ≡ true) → f t ≡ true
      go true b p q e true x below = ap f (eqb-true t (suc n) x) ∙ p
      go false true p q e true x below = let m = tally-mono n in absurd (omega arith)
      go false false p q e true x below = absurd (false≢true (sym q ∙ ap g (sym (eqb-true t (suc n) x)) ∙ h))
      go true true p q e false x below = let ne = eqb-false t (suc n) x in below (omega arith) (omega arith)
      go true false p q e false x below = absurd (false≢true (sym q ∙ weaker (suc n) p))
      go false true p q e false x below = let m = tally-mono n in absurd (omega arith)
      go false false p q e false x below = let ne = eqb-false t (suc n) x in below e (omega arith)

-- ── after as many steps as there are types, nothing is lost any more ──

module _ (step : ℕ → List ℕ) (n : ℕ) (inside : (t u : ℕ) → Memᴰ u (step t) → (1 ≤ u) × (u ≤ n)) where
  -- every type with a walk of m steps has one of m + 1
  abbrev Stable : ℕ → Type 0
  Stable m = (t : ℕ) → 1 ≤ t → t ≤ n → walks step m t ≡ true → walks step (suc m) t ≡ true

  stable-on : (m : ℕ) → Stable m → Stable (suc m)
  stable-on m s t low high e =
      let w = any-finds (walks step m) (step t) e in
      let r = inside t w.0 w.1 in
      any-holds (walks step (suc m)) w.0 w.1 (s w.0 r.0 r.1 w.2)

  left : ℕ → ℕ
  left m = tally (walks step m) n

  stable-or-fewer : (m : ℕ) → Stable m ⊎ (left (suc m) < left m)
  unfolding left
  stable-or-fewer m = go (eqb (left (suc m)) (left m)) refl
    where
      go : (z : Bool) → eqb (left (suc m)) (left m) ≡ z → Stable m ⊎ (left (suc m) < left m)
      go true x = inl (λ t low high h. tally-same (walks step (suc m)) (walks step m) (walks-fewer step m) n t (eqb-true _ _ x) low high h)
      go false x =
          let ne = eqb-false (left (suc m)) (left m) x in
          let le = tally-mono (walks step (suc m)) (walks step m) (walks-fewer step m) n in
          inr (omega arith)

  stable-by : (m : ℕ) → Stable m ⊎ (left m + m ≤ n)
  unfolding left
  stable-by zero = let h = tally-le (walks step 0) n in inr (omega arith)
  stable-by (suc m) =
      ⊎_elim (λ s. inl (stable-on m s))
      (λ h. ⊎_elim (λ s. inl (stable-on m s)) (λ k. inr (omega arith)) (stable-or-fewer m))
      (stable-by m)

  stable : Stable n
  unfolding left
  stable t low high h =
      ⊎_elim (λ s. s t low high h)
      (λ k. absurd (false≢true (tally-same (λ u. false) (walks step n) (λ u e. absurd (false≢true e)) n t (none_left k) low high h)))
      (stable-by n)
    where
      nobody : (n : ℕ) → tally (λ u. false) n ≡ 0
      nobody zero = refl
      nobody (suc n) = nobody n

      none_left : left n + n ≤ n → tally (λ u. false) n ≡ left n
      none_left k = nobody n ∙ omega arith

  -- a type with a walk of n steps, and the one that it goes on to
  abbrev On : Type 0
  On = (t : ℕ) × (1 ≤ t) × (t ≤ n) × (walks step n t ≡ true)

  next : (s : On) → (u : On) × Memᴰ u.0 (step s.0)
  next s =
      let w = any-finds (walks step n) (step s.0) (stable s.0 s.1 s.2 s.3) in
      let r = inside s.0 w.0 w.1 in
      ((w.0, r.0, r.1, w.2), w.1)

  abbrev after : On → ℕ → On
  after s zero = s
  after s (suc i) = (next (after s i)).0

  pub walks-chain : (t : ℕ) → 1 ≤ t → t ≤ n → walks step n t ≡ true → Chain step t
  walks-chain t low high e =
      let s : On = (t, low, high, e) in
      record { at = λ i. (after s i).0; starts = refl; goes_on = λ i. (next (after s i)).1 }
