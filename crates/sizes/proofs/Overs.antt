-- Laws of a size asked of a table that leans on a base: which blob is read, and that a base of no types changes nothing.
-- Assumes nothing.
use Prim.Native.Nat.{ℕ, zero, suc, ◌≤◌, ◌<◌}
use mathlib.Core.Path.{◌≡◌, refl, ap, ◌∙◌}
use mathlib.Core.List.{List}
use native.Mathlib.Omega.{arith}
use borrow.Author.Tests.{le-leb, lt-leb}
use lib.ListN.{length}
use Rattle.pairs.specs.Lean.{step_over, size_over}
use Rattle.paper.specs.rules.Size.{Step, is, many_of, sizeless, lost, Found, scale, go_on, size_by, step_at, size_asked, size_answer, size_of}

-- ── which blob is read ──

module _ (base : List ℕ) (n : ℕ) (own index : List ℕ) {t : ℕ} {x : Step} where
  pub step_over-base : t ≤ n → x ≡ step_at base index t → x ≡ step_over base n own index t
  unfolding step_over
  step_over-base h e = rw (le-leb _ _ h) e

  pub step_over-own : n < t → x ≡ step_at own index t → x ≡ step_over base n own index t
  unfolding step_over
  step_over-own h e = rw (lt-leb _ _ h) e

-- ── a base of no types ──

go_on-cong : (s : Step) (f g : ℕ → Found) → ((u : ℕ) → f u ≡ g u) → go_on s f ≡ go_on s g
go_on-cong (is s) f g e = refl
go_on-cong (many_of n u) f g e = ap (scale n) (e u)
go_on-cong sizeless f g e = refl
go_on-cong lost f g e = refl

-- a walk asks nothing of void, so that steps which agree on all other types find the same
size_by-cong : (f g : ℕ → Step) → ((t : ℕ) → f (suc t) ≡ g (suc t)) → (reads t : ℕ) → size_by f reads t ≡ size_by g reads t
size_by-cong f g e zero zero = refl
size_by-cong f g e zero (suc t) = refl
size_by-cong f g e (suc reads) zero = refl
size_by-cong f g e (suc reads) (suc t) =
    ap (λ (s : Step). go_on s (λ (u : ℕ). size_by f reads u)) (e t)
    ∙ go_on-cong (g (suc t)) (λ (u : ℕ). size_by f reads u) (λ (u : ℕ). size_by g reads u) (size_by-cong f g e reads)

pub size_over-alone : (base own index : List ℕ) (t : ℕ) → size_over base 0 own index t ≡ size_of own index t
unfolding size_over size_of size_asked step_over
size_over-alone base own index t =
    ap size_answer (size_by-cong (step_over base 0 own index) (step_at own index) (λ u. rw (lt-leb (suc u) 0 (omega arith)) refl) (length index) t)
