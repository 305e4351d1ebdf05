-- How much a search can still do: 2 for each type not seen, 1 for each on the way. Each step that enters or leaves a type takes 1 away.
-- Assumes nothing.
use Prim.Native.Nat.{ℕ, zero, suc, ◌+◌, ◌≤◌, ◌<◌}
use mathlib.Core.Path.{◌≡◌, refl, ap, ap₂, ◌∙◌}
use mathlib.Core.Bool.{Bool, true, false, cond}
use mathlib.Core.List.{List}
use native.Mathlib.Omega.{arith}
use borrow.Author.Tests.{eqb-true, eqb-false, ne_eqb, le-leb, lt-leb}
use lib.Dec.{eqb, leb}
use lib.ListN.{length, get_or, set}
use lib.Seq.{get_or-set_same, get_or-set_other}
use Rattle.recall.specs.Recall.{first_telling}

abbrev weight : ℕ → ℕ
weight m = cond (eqb m 0) 2 (cond (leb first_telling m) 0 1)

-- of the types 1 to n
abbrev pub weights : List ℕ → ℕ → ℕ
weights work zero = 0
weights work (suc n) = weight (get_or work (suc n) 0) + weights work n

weight-new : {m : ℕ} → m ≡ 0 → weight m ≡ 2
weight-new {m} e = ap weight e

weight-done : (m : ℕ) → first_telling ≤ m → weight m ≡ 0
weight-done m h = ap₂ (λ (a b : Bool). cond a 2 (cond b 0 1)) (ne_eqb m 0 (λ (e : m ≡ 0). omega arith)) (le-leb first_telling m h)

weight-open : (m : ℕ) → 1 ≤ m → m < first_telling → weight m ≡ 1
weight-open m low high = ap₂ (λ (a b : Bool). cond a 2 (cond b 0 1)) (ne_eqb m 0 (λ (e : m ≡ 0). omega arith)) (lt-leb first_telling m high)

module _ (work : List ℕ) (u v : ℕ) where
  weights-outside : (n : ℕ) → n < u → weights (set work u v) n ≡ weights work n
  weights-outside zero h = refl
  weights-outside (suc n) h =
      ap₂ (λ (a b : ℕ). weight a + b) (get_or-set_other work u (suc n) v 0 (λ (e : suc n ≡ u). omega arith)) (weights-outside n (omega arith))

  weights-set : (n : ℕ) → 1 ≤ u → u ≤ n → u < length work → weights (set work u v) n + weight (get_or work u 0) ≡ weights work n + weight v
  weights-set zero low high room = absurd (omega arith)
  weights-set (suc n) low high room = go (eqb (suc n) u) refl (λ (h : u ≤ n). weights-set n low h room)
    where
      go : (b : Bool) → eqb (suc n) u ≡ b → (u ≤ n → weights (set work u v) n + weight (get_or work u 0) ≡ weights work n + weight v)
          → weight (get_or (set work u v) (suc n) 0) + weights (set work u v) n + weight (get_or work u 0)
          ≡ weight (get_or work (suc n) 0) + weights work n + weight v
      go true e deeper =
          let same = eqb-true (suc n) u e in
          let here : weight (get_or (set work u v) (suc n) 0) ≡ weight v =
          ap (λ (x : ℕ). weight (get_or (set work u v) x 0)) same ∙ ap weight (get_or-set_same work u v 0 room) in
          let old : weight (get_or work (suc n) 0) ≡ weight (get_or work u 0) = ap (λ (x : ℕ). weight (get_or work x 0)) same in
          let below = weights-outside n (omega arith) in
          omega arith
      go false e deeper =
          let apart = eqb-false (suc n) u e in
          let here : weight (get_or (set work u v) (suc n) 0) ≡ weight (get_or work (suc n) 0) = ap weight (get_or-set_other work u (suc n) v 0 apart) in
          let below = deeper (omega arith) in
          omega arith

  -- a type is entered
  pub weights-entered : (n : ℕ) → 1 ≤ u → u ≤ n → u < length work → get_or work u 0 ≡ 0 → 1 ≤ v → v < first_telling → weights (set work u v) n < weights work n
  weights-entered n low high room new l h =
      let e = weights-set n low high room in
      let a = weight-new new in
      let b = weight-open v l h in
      omega arith

-- a type is left
pub weights-left : (work : List ℕ) (u v n : ℕ) → 1 ≤ u → u ≤ n → u < length work → 1 ≤ get_or work u 0 → get_or work u 0 < first_telling → first_telling ≤ v
    → weights (set work u v) n < weights work n
weights-left work u v n low high room l h done =
    let e = weights-set work u v n low high room in
    let a = weight-open (get_or work u 0) l h in
    omega (arith, weight-done v done)
