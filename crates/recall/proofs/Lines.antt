-- Lines: walks in which a type leads to one other at the most, over references that are held by value. Of any such steps.
-- Assumes nothing.
use Prim.Native.Nat.{ℕ, zero, suc}
use mathlib.Core.Path.{◌≡◌, refl, sym, ap, ◌∙◌}
use mathlib.Core.Bool.{Bool, true, false, cond, false≢true}
use mathlib.Core.List.{List, Memᴰ}
use mathlib.Core.Logic.{◌⊎◌, ⊎_elim}
use borrow.Author.Tests.{eqb-true, eqb-false}
use lib.Dec.{eqb}
use Rattle.paper.proofs.walks.Endless.{any-holds}
use Rattle.paper.specs.rules.Chain.{walks}

-- void, or a type of some sort
abbrev pub OrVoid : (ℕ → Type 0) → ℕ → Type 0
OrVoid D t = (t ≡ 0) ⊎ D t

module _ (held : ℕ → List ℕ) (on : ℕ → Bool) (to : ℕ → ℕ) where
  -- so many steps along a line, or to its end
  abbrev pub line_from : ℕ → ℕ → ℕ
  line_from zero t = t
  line_from (suc k) t = let there = line_from k (to t) in cond (on t) there t

  module _ (void : on 0 ≡ false) (leads : (t : ℕ) → on t ≡ true → (to t ≡ 0 → ⊥) → Memᴰ (to t) (held t)) where
    line-void : (k : ℕ) → line_from k 0 ≡ 0
    line-void zero = refl
    line-void (suc k) = ap (λ (z : Bool). cond z (line_from k (to 0)) 0) void

    -- a walk that ends leads on to one that ends sooner
    line-ends : (k t : ℕ) → walks held (suc k) t ≡ false → on t ≡ true → (to t ≡ 0 → ⊥) → walks held k (to t) ≡ false
    line-ends k t e o ne = go (walks held k (to t)) refl
      where
        go : (z : Bool) → walks held k (to t) ≡ z → z ≡ false
        go false x = refl
        go true x = absurd (false≢true (sym e ∙ any-holds (walks held k) (to t) (leads t o ne) x))

    -- a step more than are needed does not matter
    line-suc : (k t : ℕ) → walks held k t ≡ false → line_from (suc k) t ≡ line_from k t
    line-suc zero t e = absurd (false≢true (sym e))
    line-suc (suc k) t e = go (on t) refl (eqb (to t) 0) refl (line-suc k (to t))
      where
        go : (a : Bool) → on t ≡ a → (z : Bool) → eqb (to t) 0 ≡ z → (walks held k (to t) ≡ false → line_from (suc k) (to t) ≡ line_from k (to t))
            → cond a (line_from (suc k) (to t)) t ≡ cond a (line_from k (to t)) t
        go false p z q more = refl
        go true p true q more =
            ap (line_from (suc k)) (eqb-true (to t) 0 q) ∙ line-void (suc k) ∙ sym (line-void k) ∙ ap (line_from k) (sym (eqb-true (to t) 0 q))
        go true p false q more = more (line-ends k t e p (eqb-false (to t) 0 q))

    -- so where a walk ends, the line of a type is that of the next
    pub line_step : (n t : ℕ) → walks held n t ≡ false → on t ≡ true → line_from n t ≡ line_from n (to t)
    line_step zero t e o = absurd (false≢true (sym e))
    line_step (suc k) t e o = ap (λ (z : Bool). cond z (line_from k (to t)) t) o ∙ go (eqb (to t) 0) refl
      where
        go : (z : Bool) → eqb (to t) 0 ≡ z → line_from k (to t) ≡ line_from (suc k) (to t)
        go true q =
            ap (line_from k) (eqb-true (to t) 0 q) ∙ line-void k ∙ sym (line-void (suc k)) ∙ ap (line_from (suc k)) (sym (eqb-true (to t) 0 q))
        go false q = sym (line-suc k (to t) (line-ends k t e o (eqb-false (to t) 0 q)))

    pub line-own : (n t : ℕ) → on t ≡ false → line_from n t ≡ t
    line-own zero t o = refl
    line-own (suc k) t o = ap (λ (z : Bool). cond z (line_from k (to t)) t) o

    -- and nothing leads on from its end
    pub line-end : (n t : ℕ) → walks held n t ≡ false → on (line_from n t) ≡ false
    line-end zero t e = absurd (false≢true (sym e))
    line-end (suc k) t e = go (on t) refl (eqb (to t) 0) refl (line-end k (to t))
      where
        go : (a : Bool) → on t ≡ a → (z : Bool) → eqb (to t) 0 ≡ z → (walks held k (to t) ≡ false → on (line_from k (to t)) ≡ false)
            → on (cond a (line_from k (to t)) t) ≡ false
        go false p z q more = p
        go true p true q more = ap on (ap (line_from k) (eqb-true (to t) 0 q) ∙ line-void k) ∙ void
        go true p false q more = more (line-ends k t e p (eqb-false (to t) 0 q))

    -- ── over types that lead to each other ──

    module _ (D : ℕ → Type 0) (closed : (t : ℕ) → D t → on t ≡ true → OrVoid D (to t)) where
      pub line-inside : (k t : ℕ) → OrVoid D t → OrVoid D (line_from k t)
      line-inside zero t h = h
      line-inside (suc k) t h = go (on t) refl (λ u i. line-inside k u i)
        where
          go : (a : Bool) → on t ≡ a → ((u : ℕ) → OrVoid D u → OrVoid D (line_from k u)) → OrVoid D (cond a (line_from k (to t)) t)
          go false p more = h
          go true p more =
              ⊎_elim (λ (z : t ≡ 0). absurd (false≢true (sym void ∙ ap on (sym z) ∙ p))) (λ d. more (to t) (closed t d p)) h

      -- what a step keeps, the whole line keeps
      pub line-keeps : {A : Type 0} (f : ℕ → A) → ((t : ℕ) → D t → on t ≡ true → f t ≡ f (to t)) → (k t : ℕ) → OrVoid D t → f t ≡ f (line_from k t)
      line-keeps f keeps zero t h = refl
      line-keeps f keeps (suc k) t h = go (on t) refl (λ u i. line-keeps f keeps k u i)
        where
          go : (a : Bool) → on t ≡ a → ((u : ℕ) → OrVoid D u → f u ≡ f (line_from k u)) → f t ≡ f (cond a (line_from k (to t)) t)
          go false p more = refl
          go true p more =
              ⊎_elim (λ (z : t ≡ 0). absurd (false≢true (sym void ∙ ap on (sym z) ∙ p))) (λ d. keeps t d p ∙ more (to t) (closed t d p)) h
