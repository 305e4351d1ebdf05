-- Laws of `told_in` and `told_wide`: the stores that leave the numbers in a slice, by how many places it has.
-- Assumes nothing.
use Prim.Native.Nat.{ℕ, ◌≤◌, ◌<◌}
use mathlib.Core.Path.{◌≡◌, refl, sym, ap}
use mathlib.Core.List.{List, [], ◌∷◌, ◌++◌}
use native.Mathlib.Omega.{arith}
use lib.ListN.{length, set}
use lib.Seq.{take-nil}
use Rattle.abi.specs.Told.{told_in, told_wide}
use Rattle.paper.specs.rules.Answer.{Answer}

module _ (r : Answer) where
  pub told_none : (s : List ℕ) → length s ≡ 0 → s ≡ told_in r s
  unfolding told_in
  told_none [] h = refl
  told_none (a ∷ s) h = absurd (omega arith)

  pub told-one : (s : List ℕ) → length s ≡ 1 → set s 0 r.number ≡ told_in r s
  unfolding told_in
  told-one [] h = absurd (omega arith)
  told-one (a ∷ []) h = refl
  told-one (a ∷ b ∷ s) h = absurd (omega arith)

  pub told-two : (s : List ℕ) → length s ≡ 2 → set (set s 0 r.number) 1 r.inner ≡ told_in r s
  unfolding told_in
  told-two [] h = absurd (omega arith)
  told-two (a ∷ []) h = absurd (omega arith)
  told-two (a ∷ b ∷ []) h = refl
  told-two (a ∷ b ∷ c ∷ s) h = absurd (omega arith)

  pub told-three : (s : List ℕ) → length s ≡ 3 → set (set (set s 0 r.number) 1 r.inner) 2 r.t ≡ told_in r s
  unfolding told_in
  told-three [] h = absurd (omega arith)
  told-three (a ∷ []) h = absurd (omega arith)
  told-three (a ∷ b ∷ []) h = absurd (omega arith)
  told-three (a ∷ b ∷ c ∷ []) h = refl
  told-three (a ∷ b ∷ c ∷ d ∷ s) h = absurd (omega arith)

  pub told-four : (s : List ℕ) → 4 ≤ length s → set (set (set (set s 0 r.number) 1 r.inner) 2 r.t) 3 r.p ≡ told_in r s
  unfolding told_in
  told-four [] h = absurd (omega arith)
  told-four (a ∷ []) h = absurd (omega arith)
  told-four (a ∷ b ∷ []) h = absurd (omega arith)
  told-four (a ∷ b ∷ c ∷ []) h = absurd (omega arith)
  told-four (a ∷ b ∷ c ∷ d ∷ s) h = ap (λ (u : List ℕ). r.number ∷ r.inner ∷ r.t ∷ r.p ∷ (u ++ s)) (sym (take-nil (length s)))

-- ── and the fifth ──

module _ (r : Answer) (high : ℕ) where
  pub wide-few : (s : List ℕ) → length s < 5 → told_in r s ≡ told_wide r high s
  unfolding told_in told_wide
  wide-few [] h = refl
  wide-few (a ∷ []) h = refl
  wide-few (a ∷ b ∷ []) h = refl
  wide-few (a ∷ b ∷ c ∷ []) h = refl
  wide-few (a ∷ b ∷ c ∷ d ∷ []) h = refl
  wide-few (a ∷ b ∷ c ∷ d ∷ e ∷ s) h = absurd (omega arith)

  pub wide-full : (s : List ℕ) → 5 ≤ length s → set (told_in r s) 4 high ≡ told_wide r high s
  unfolding told_in told_wide
  wide-full [] h = absurd (omega arith)
  wide-full (a ∷ []) h = absurd (omega arith)
  wide-full (a ∷ b ∷ []) h = absurd (omega arith)
  wide-full (a ∷ b ∷ c ∷ []) h = absurd (omega arith)
  wide-full (a ∷ b ∷ c ∷ d ∷ []) h = absurd (omega arith)
  wide-full (a ∷ b ∷ c ∷ d ∷ e ∷ s) h = ap (λ (u : List ℕ). r.number ∷ r.inner ∷ r.t ∷ r.p ∷ high ∷ (u ++ s)) (sym (take-nil (length s)))
