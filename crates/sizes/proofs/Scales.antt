-- Laws of the size question's walk: counts multiplied down the chain, cut where they overflow, and the work that is left.
-- Assumes nothing.
use Prim.Native.Nat.{ℕ, zero, suc, ◌-◌, ◌*◌, ◌<◌, ◌≤◌}
use mathlib.Core.Path.{◌≡◌, refl, sym, ap, ◌∙◌}
use mathlib.Core.Bool.{Bool, true, false, cond}
use native.Mathlib.Nat.{mul_assoc, one-mul, mul-zero, mul-le-mul, le-mul_of_pos_right}
use native.Mathlib.Omega.{arith}
use borrow.Author.Tests.{eqb-true, eqb-false, leb-true, leb-false, lt-leb}
use lib.Dec.{eqb, leb}
use Rattle.sizes.specs.SizeStep.{cut}
use Rattle.paper.proofs.walks.Sizes.{size_by-void}
use Rattle.paper.specs.rules.Answer.{Answer}
use Rattle.paper.specs.rules.Limits.{size_limit}
use Rattle.paper.specs.rules.Size.{Step, is, many_of, sizeless, lost, Found, exactly, none_at, lost_at, too_far, scale, go_on, size_by, size_answer}

-- ── counts ──

pub scale_one : (x : Found) → scale 1 x ≡ x
scale_one (exactly s) = ap exactly (one-mul s)
scale_one none_at = refl
scale_one lost_at = refl
scale_one too_far = refl

pub scale-scale : (m n : ℕ) (x : Found) → scale m (scale n x) ≡ scale (m * n) x
scale-scale m n (exactly s) = ap exactly (sym (mul_assoc m n s))
scale-scale m n none_at = refl
scale-scale m n lost_at = refl
scale-scale m n too_far = refl

pub product-fits : {p n : ℕ} → p ≤ 4294967296 → n < 4294967296 → p * n < 18446744073709551616
product-fits {p} {n} hp hn = let small : n ≤ 4294967295 = omega arith in omega (arith, mul-le-mul hp small)

-- ── a product that is cut ──

pub cut-bound : (q : ℕ) → cut q ≤ 4294967296
unfolding cut
cut-bound q = go (leb q 4294967296) refl
  where
    go : (z : Bool) → leb q 4294967296 ≡ z → cond z q 4294967296 ≤ 4294967296
    go true e = leb-true _ _ e
    go false e = omega arith

-- so many times a size that is not 0 is too large
over : (q s : ℕ) → 4294967296 ≤ q → leb (q * suc s) size_limit ≡ false
over q s h =
    let more : q ≤ q * suc s = le-mul_of_pos_right {m = suc s} q (omega arith) in
    let large : size_limit < q * suc s = omega arith in
    lt-leb _ _ large

-- the cut is not seen in the answer
pub size_answer-cut : (q : ℕ) (x : Found) → size_answer (scale (cut q) x) ≡ size_answer (scale q x)
unfolding cut
size_answer-cut q none_at = refl
size_answer-cut q lost_at = refl
size_answer-cut q too_far = refl
size_answer-cut q (exactly zero) = simp mul-zero
size_answer-cut q (exactly (suc s)) = go (leb q 4294967296) refl
  where
    go : (z : Bool) → leb q 4294967296 ≡ z → size_answer (exactly (cond z q 4294967296 * suc s)) ≡ size_answer (exactly (q * suc s))
    go true e = refl
    go false e = let large = leb-false q 4294967296 e in rw (over 4294967296 s (omega arith), over q s (omega arith)) refl

-- ── one read ──

size_by-read : (step : ℕ → Step) (reads t : ℕ) → (t ≡ 0 → ⊥) → (reads ≡ 0 → ⊥)
    → size_by step reads t ≡ go_on (step t) (λ (u : ℕ). size_by step (reads - 1) u)
size_by-read step reads zero h m = absurd (h refl)
size_by-read step zero (suc t) h m = absurd (m refl)
size_by-read step (suc reads) (suc t) h m =
    let same : reads ≡ suc reads - 1 = omega arith in
    ap (λ (k : ℕ). go_on (step (suc t)) (λ (u : ℕ). size_by step k u)) same

size_by-far : (step : ℕ → Step) (t : ℕ) → (t ≡ 0 → ⊥) → size_by step 0 t ≡ too_far
size_by-far step zero h = absurd (h refl)
size_by-far step (suc t) h = refl

-- ── the work that is left ──

-- so many times the size of t, with so many reads, told in some way, is the answer
pub record Left (tell : Found → Answer) (step : ℕ → Step) (answer : Answer) (t count reads : ℕ) : Type 0 where
  pub bound : count ≤ 4294967296
  pub rest : tell (scale count (size_by step reads t)) ≡ answer

pub left-all : (tell : Found → Answer) (step : ℕ → Step) {t reads : ℕ} {answer : Answer} → tell (size_by step reads t) ≡ answer → Left tell step answer t 1 reads
left-all tell step {t} {reads} e = record { bound = omega arith; rest = ap tell (scale_one (size_by step reads t)) ∙ e }

module _ {tell : Found → Answer} {step : ℕ → Step} {answer : Answer} {t count reads : ℕ} (left : Left tell step answer t count reads) where
  left-found : {x : Found} → size_by step reads t ≡ x → tell (scale count x) ≡ answer
  left-found e = sym (ap (λ (x : Found). tell (scale count x)) e) ∙ left.rest

  pub left-void : t ≡ 0 → tell none_at ≡ answer
  left-void e = left-found (ap (size_by step reads) e ∙ size_by-void step reads)

  module _ (some : t ≡ 0 → ⊥) where
    pub left_far : reads ≡ 0 → tell too_far ≡ answer
    left_far e = left-found {x = too_far} (rw e (size_by-far step t some))

    module _ (more : reads ≡ 0 → ⊥) {x : Step} (at : x ≡ step t) where
      -- what the record says decides, or leads on
      left_step : {y : Step} → x ≡ y → tell (scale count (go_on y (λ (u : ℕ). size_by step (reads - 1) u))) ≡ answer
      left_step e = left-found (size_by-read step reads t some more ∙ ap (λ (z : Step). go_on z (λ (u : ℕ). size_by step (reads - 1) u)) (sym at ∙ e))

      pub left_is : {s : ℕ} {y : Answer} → x ≡ is s → y ≡ tell (exactly (count * s)) → y ≡ answer
      left_is e d = d ∙ left_step e

      pub left-sizeless : x ≡ sizeless → tell none_at ≡ answer
      left-sizeless e = left_step e

      pub left-lost : x ≡ lost → tell lost_at ≡ answer
      left-lost e = left_step e

      pub left-many : ((q : ℕ) (f : Found) → tell (scale (cut q) f) ≡ tell (scale q f)) → {n u count' : ℕ} → x ≡ many_of n u → count' ≡ cut (count * n)
          → Left tell step answer u count' (reads - 1)
      left-many unseen {n} {u} {count'} e d =
          let found : Found = size_by step (reads - 1) u in
          record {
            bound = rw d (cut-bound (count * n));
            rest = rw d (unseen (count * n) found ∙ ap tell (sym (scale-scale count n found)) ∙ left_step e);
          }

  -- where no more is read, and void and too far are told alike
  pub left-end : reads ≡ 0 → tell none_at ≡ tell too_far → tell none_at ≡ answer
  left-end e same = go (eqb t 0) refl
    where
      go : (z : Bool) → eqb t 0 ≡ z → tell none_at ≡ answer
      go true z = left-void (eqb-true t 0 z)
      go false z = same ∙ left_far (eqb-false t 0 z) e
