-- Laws of `-(k as i64) - 1`: each step fits, and it is `negsuc k`.
-- Assumes nothing.
use Prim.Native.Nat.{ℕ, zero, suc, ◌^◌, ◌<◌}
use mathlib.Core.Path.{◌≡◌, refl, sym, ap, ◌∙◌, subst}
use native.Mathlib.Omega.{arith}
use lib.IntN.{ℤ, pos, negsuc, neg_ℤ, pred_ℤ, ◌-ℤ◌, +ℤ_idl, -ℤ_one}
use mir.Syntax.{w64}
use mir.Val.{SFits, to_z, of_z}
use mir.Facts.{to_z_pos, to_z-of_z}

minus-fits : (k : ℕ) → k < 2 ^ 63 → SFits w64 (neg_ℤ (pos k))
minus-fits zero h = record { sfits = omega arith }
minus-fits (suc k) h = record { sfits = omega arith }

pred-minus : (k : ℕ) → pred_ℤ (neg_ℤ (pos k)) ≡ negsuc k
pred-minus zero = refl
pred-minus (suc k) = refl

module _ {k : ℕ} (h : k < 2 ^ 63) where
  negated : pos 0 -ℤ to_z w64 k ≡ neg_ℤ (pos k)
  negated = ap (λ (z : ℤ). pos 0 -ℤ z) (to_z_pos w64 h) ∙ +ℤ_idl (neg_ℤ (pos k))

  pub negated_fits : SFits w64 (pos 0 -ℤ to_z w64 k)
  negated_fits = subst (SFits w64) (sym negated) (minus-fits k h)

  lowered : to_z w64 (of_z w64 (pos 0 -ℤ to_z w64 k)) -ℤ pos 1 ≡ negsuc k
  lowered = ap (λ (z : ℤ). z -ℤ pos 1) (to_z-of_z negated_fits ∙ negated) ∙ -ℤ_one (neg_ℤ (pos k)) ∙ pred-minus k

  pub lowered-fits : SFits w64 (to_z w64 (of_z w64 (pos 0 -ℤ to_z w64 k)) -ℤ pos 1)
  lowered-fits = subst (SFits w64) (sym lowered) (record { sfits = h })

  pub lowered_is : to_z w64 (of_z w64 (to_z w64 (of_z w64 (pos 0 -ℤ to_z w64 k)) -ℤ pos 1)) ≡ negsuc k
  lowered_is = to_z-of_z lowered-fits ∙ lowered
