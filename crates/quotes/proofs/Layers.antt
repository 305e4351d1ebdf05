-- One, two or four bytes stored one behind the other, as what is put.
-- Assumes nothing.
use Prim.Native.Nat.{ℕ, suc, ◌+◌, ◌≤◌}
use mathlib.Core.Path.{◌≡◌, ap, ◌∙◌}
use mathlib.Core.List.{List, [], ◌∷◌}
use native.Mathlib.Omega.{arith}
use lib.ListN.{length, set}
use Rattle.paper.specs.terms.Put.{put}
use Rattle.paper.proofs.bytes.Puts.{put-stores}

pub put_1 : (l : List ℕ) (p v : ℕ) → p + 1 ≤ length l → set l p v ≡ put l p (v ∷ [])
put_1 l p v h = put-stores l p (v ∷ []) h

pub put_2 : (l : List ℕ) (p v w : ℕ) → p + 2 ≤ length l → set (set l p v) (p + 1) w ≡ put l p (v ∷ w ∷ [])
put_2 l p v w h =
    let one : p + 1 ≡ suc p = omega arith in
    ap (λ (k : ℕ). set (set l p v) k w) one ∙ put-stores l p (v ∷ w ∷ []) h

pub put_4 : (l : List ℕ) (p a b c d : ℕ) → p + 4 ≤ length l
    → set (set (set (set l p a) (p + 1) b) (p + 2) c) (p + 3) d ≡ put l p (a ∷ b ∷ c ∷ d ∷ [])
put_4 l p a b c d h =
    let one : p + 1 ≡ suc p = omega arith in
    let two : p + 2 ≡ suc (suc p) = omega arith in
    let three : p + 3 ≡ suc (suc (suc p)) = omega arith in
    (λ i. set (set (set (set l p a) (one i) b) (two i) c) (three i) d) ∙ put-stores l p (a ∷ b ∷ c ∷ d ∷ []) h
