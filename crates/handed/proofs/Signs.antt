-- Laws of a signed number taken apart: `-(z + 1)` of a negative one is what `negsuc` holds, and any other is its own magnitude.
-- Assumes nothing.
use Prim.Native.Nat.{ℕ, zero, suc, ◌-◌, ◌^◌, ◌≤◌, ◌<◌}
use mathlib.Core.Path.{◌≡◌, refl, sym, ap, ◌∙◌, subst}
use mathlib.Core.Bool.{true, false, false≢true}
use mathlib.Core.List.{◌++◌}
use native.Mathlib.Omega.{arith}
use borrow.Author.Tests.{ltb-true}
use lib.Dec.{T}
use lib.IntN.{ℤ, pos, negsuc, neg_ℤ, nat_abs, suc_ℤ, ◌+ℤ◌, ◌-ℤ◌, +ℤ_idl, +ℤ_one, neg_ℤ-neg_ℤ}
use lib.Signed.{mag, lt_z, non_neg}
use mir.Facts.{to_z-of_z}
use mir.Syntax.{w64}
use mir.Val.{Fits, SFits, to_z, of_z}
use Rattle.handed.specs.Handed.{int_bytes}
use Rattle.values.specs.Promised.{bytes_from}

-- a number as the machine holds it
abbrev held : ℤ → ℤ
held z = to_z w64 (of_z w64 z)

pub held-is : (z : ℤ) → mag z < 2 ^ 63 → held z ≡ z
held-is z h = to_z-of_z {w = w64} {z = z} (record { sfits = h })

-- ── a negative one ──

suc-minus : (k : ℕ) → suc_ℤ (negsuc k) ≡ neg_ℤ (pos k)
suc-minus zero = refl
suc-minus (suc k) = refl

minus-low : (k : ℕ) → k < 2 ^ 63 → mag (neg_ℤ (pos k)) < 2 ^ 63
minus-low zero h = h
minus-low (suc k) h = omega arith

module _ (k : ℕ) (h : k < 2 ^ 63) where
  plus : held (negsuc k) +ℤ pos 1 ≡ neg_ℤ (pos k)
  plus = ap (λ (x : ℤ). x +ℤ pos 1) (held-is (negsuc k) h) ∙ +ℤ_one (negsuc k) ∙ suc-minus k

  turned : pos 0 -ℤ held (held (negsuc k) +ℤ pos 1) ≡ pos k
  turned =
      ap (λ (x : ℤ). pos 0 -ℤ held x) plus
      ∙ ap (λ (x : ℤ). pos 0 -ℤ x) (held-is (neg_ℤ (pos k)) (minus-low k h))
      ∙ +ℤ_idl (neg_ℤ (neg_ℤ (pos k)))
      ∙ neg_ℤ-neg_ℤ (pos k)

  back : held (pos 0 -ℤ held (held (negsuc k) +ℤ pos 1)) ≡ pos k
  back = ap held turned ∙ held-is (pos k) h

-- what the code makes of it
abbrev over : ℤ → ℤ
over z = held (pos 0 -ℤ held (held z +ℤ pos 1))

-- no other is below 0
not-below : (n : ℕ) → n < 2 ^ 63 → lt_z (held (pos n)) (pos 0) ≡ true → ⊥
not-below n h e = let l = ltb-true n 0 (sym (ap (λ (x : ℤ). lt_z x (pos 0)) (held-is (pos n) h)) ∙ e) in omega arith

pub plus-fits : (z : ℤ) → mag z < 2 ^ 63 → lt_z (held z) (pos 0) ≡ true → SFits w64 (held z +ℤ pos 1)
plus-fits (pos n) h e = absurd (not-below n h e)
plus-fits (negsuc k) h e = subst (SFits w64) (sym (plus k h)) (record { sfits = minus-low k h })

pub turned-fits : (z : ℤ) → mag z < 2 ^ 63 → lt_z (held z) (pos 0) ≡ true → SFits w64 (pos 0 -ℤ held (held z +ℤ pos 1))
turned-fits (pos n) h e = absurd (not-below n h e)
turned-fits (negsuc k) h e = subst (SFits w64) (sym (turned k h)) (record { sfits = h })

pub over-fits : (z : ℤ) → mag z < 2 ^ 63 → lt_z (held z) (pos 0) ≡ true → T (non_neg (over z)) × Fits w64 (nat_abs (over z))
over-fits (pos n) h e = absurd (not-below n h e)
over-fits (negsuc k) h e = subst (λ (x : ℤ). T (non_neg x) × Fits w64 (nat_abs x)) (sym (back k h)) (tt, record { fits = omega arith })

pub over-low : (z : ℤ) → mag z < 2 ^ 63 → lt_z (held z) (pos 0) ≡ true → nat_abs (over z) ≤ 18446744073709551615
over-low (pos n) h e = absurd (not-below n h e)
over-low (negsuc k) h e = subst (λ (x : ℤ). nat_abs x ≤ 18446744073709551615) (sym (back k h)) (omega arith)

pub word-minus : (z : ℤ) → mag z < 2 ^ 63 → lt_z (held z) (pos 0) ≡ true → 18446744073709551615 - nat_abs (over z) ≡ of_z w64 z
word-minus (pos n) h e = absurd (not-below n h e)
word-minus (negsuc k) h e = ap (λ (x : ℤ). 18446744073709551615 - nat_abs x) (back k h) ∙ omega arith

pub bytes-minus : (z : ℤ) → mag z < 2 ^ 63 → lt_z (held z) (pos 0) ≡ true → bytes_from 8 0 (of_z w64 z) ++ bytes_from 8 0 18446744073709551615 ≡ int_bytes z
bytes-minus (pos n) h e = absurd (not-below n h e)
bytes-minus (negsuc k) h e = refl

-- ── any other ──

pub held_fits : (z : ℤ) → mag z < 2 ^ 63 → lt_z (held z) (pos 0) ≡ false → T (non_neg (held z)) × Fits w64 (nat_abs (held z))
held_fits (pos n) h e = subst (λ (x : ℤ). T (non_neg x) × Fits w64 (nat_abs x)) (sym (held-is (pos n) h)) (tt, record { fits = omega arith })
held_fits (negsuc k) h e = absurd (false≢true (sym e ∙ ap (λ (x : ℤ). lt_z x (pos 0)) (held-is (negsuc k) h)))

pub word-plus : (z : ℤ) → mag z < 2 ^ 63 → lt_z (held z) (pos 0) ≡ false → nat_abs (held z) ≡ of_z w64 z
word-plus (pos n) h e = ap nat_abs (held-is (pos n) h)
word-plus (negsuc k) h e = absurd (false≢true (sym e ∙ ap (λ (x : ℤ). lt_z x (pos 0)) (held-is (negsuc k) h)))

pub bytes-plus : (z : ℤ) → mag z < 2 ^ 63 → lt_z (held z) (pos 0) ≡ false → bytes_from 8 0 (of_z w64 z) ++ bytes_from 8 0 0 ≡ int_bytes z
bytes-plus (pos n) h e = refl
bytes-plus (negsuc k) h e = absurd (false≢true (sym e ∙ ap (λ (x : ℤ). lt_z x (pos 0)) (held-is (negsuc k) h)))
