-- Laws of the sign: a number's top bit, its value by it, and how it is filled up.
-- Assumes nothing.
use Prim.Native.Nat.{ℕ, suc, ◌+◌, ◌*◌, ◌-◌, ◌/◌, ◌^◌, ◌≤◌, ◌<◌}
use mathlib.Core.Path.{◌≡◌, refl, sym, ap, ap₂, ◌∙◌, subst}
use mathlib.Core.Bool.{Bool, true, false, not, cond, ◌&&◌}
use mathlib.Core.List.{List, [], ◌∷◌}
use native.Mathlib.Nat.{pow-suc, div-one, div-mul-le_self, div-lt_iff_lt-mul}
use native.Mathlib.Omega.{arith}
use borrow.Author.Tests.{eqb-true, eqb-false, eq-eqb, ne_eqb, not-true, not-false}
use lib.Dec.{eqb}
use lib.IntN.{ℤ, pos, negsuc}
use lib.Pow.{pow_pos, pow_mono}
use lib.ListN.{length}
use Rattle.paper.specs.terms.Fit.{Below}
use Rattle.values.proofs.BitNumbers.{half}
use Rattle.values.specs.Promised.{is_minus, signed_number, filled_number}
use Rattle.values.specs.Value.{bits_number, top_bit, value_of}

-- ── numbers ──

-- half of all numbers of so many bits
halves : {bits : ℕ} → 1 ≤ bits → 2 ^ bits ≡ 2 ^ (bits - 1) * 2
halves {bits} h = let all : bits ≡ suc (bits - 1) = omega arith in ap (λ (k : ℕ). 2 ^ k) all ∙ pow-suc 2 (bits - 1)

half-fits : {bits : ℕ} → bits ≤ 64 → 2 ^ (bits - 1) ≤ 2 ^ 63
half-fits {bits} h = pow_mono {i = bits - 1} {j = 63} (omega arith)

module _ {bits n : ℕ} (some : 1 ≤ bits) (few : bits ≤ 64) (below : n < 2 ^ bits) where
  pub minus-fits : is_minus bits n ≡ true → 2 ^ bits - suc n < 2 ^ 63
  minus-fits e =
      let one = eqb-true (n / 2 ^ (bits - 1)) 1 e in
      let least : 1 * 2 ^ (bits - 1) ≤ n = subst (λ (k : ℕ). k * 2 ^ (bits - 1) ≤ n) one (div-mul-le_self n (2 ^ (bits - 1))) in
      let twice = halves some in
      let most = half-fits few in
      let some = pow_pos (bits - 1) in
      omega arith

  pub plus-fits : is_minus bits n ≡ false → n < 2 ^ 63
  plus-fits e =
      let twice = halves some in
      let less : n < 2 * 2 ^ (bits - 1) = omega arith in
      let none = eqb-false (n / 2 ^ (bits - 1)) 1 e in
      let two : n / 2 ^ (bits - 1) < 2 = (div-lt_iff_lt-mul (pow_pos (bits - 1))).1 less in
      let zero : n / 2 ^ (bits - 1) < 1 = omega arith in
      let low : n < 1 * 2 ^ (bits - 1) = (div-lt_iff_lt-mul (pow_pos (bits - 1))).0 zero in
      let most = half-fits few in
      omega arith

-- filled up to 64 bits, by the top bit
pub filled-zeros : {n : ℕ} (bits : ℕ) (signed : Bool) → not signed ≡ true → n ≡ filled_number signed bits n
unfolding filled_number
filled-zeros {n} bits signed e = sym (ap (λ (b : Bool). cond (b && is_minus bits n) (2 ^ 64 - suc (2 ^ bits - suc n)) n) (not-true signed e))

pub filled-plus : {n : ℕ} (bits : ℕ) (signed : Bool) → not signed ≡ false → (n / 2 ^ (bits - 1) ≡ 1 → ⊥) → n ≡ filled_number signed bits n
unfolding filled_number
filled-plus {n} bits signed on h =
    sym (ap₂ (λ (a b : Bool). cond (a && b) (2 ^ 64 - suc (2 ^ bits - suc n)) n) (not-false signed on) (ne_eqb (n / 2 ^ (bits - 1)) 1 h))

pub filled-minus : {all : ℕ} (n bits : ℕ) (signed : Bool) → not signed ≡ false → n / 2 ^ (bits - 1) ≡ 1 → all ≡ 2 ^ bits - 1
    → 2 ^ 64 - 1 - (all - n) ≡ filled_number signed bits n
unfolding filled_number
filled-minus {all} n bits signed on h ones =
    ap (λ (k : ℕ). 2 ^ 64 - 1 - (k - n)) ones ∙ omega arith
    ∙ sym (ap₂ (λ (a b : Bool). cond (a && b) (2 ^ 64 - suc (2 ^ bits - suc n)) n) (not-false signed on) (eq-eqb (n / 2 ^ (bits - 1)) 1 h))

-- and the exact value of that
module _ {bits n : ℕ} (some : 1 ≤ bits) (few : bits ≤ 64) (below : n < 2 ^ bits) {x : ℕ} where
  low_half : (b : Bool) → is_minus bits n ≡ b → x ≡ cond b (2 ^ 64 - suc (2 ^ bits - suc n)) n → x < 2 ^ 63 → pos x ≡ cond b (negsuc (2 ^ bits - suc n)) (pos n)
  low_half true e is h = absurd (let high = minus-fits some few below e in omega arith)
  low_half false e is h = ap pos is

  high_half : (b : Bool) → is_minus bits n ≡ b → x ≡ cond b (2 ^ 64 - suc (2 ^ bits - suc n)) n → 2 ^ 63 ≤ x
      → negsuc (2 ^ 64 - 1 - x) ≡ cond b (negsuc (2 ^ bits - suc n)) (pos n)
  high_half true e is h = let high = minus-fits some few below e in ap negsuc (omega arith)
  high_half false e is h = absurd (let low = plus-fits some few below e in omega arith)

  pub value-plus : {z : ℤ} → x ≡ filled_number true bits n → x < 2 ^ 63 → z ≡ pos x → z ≡ signed_number bits n
  unfolding filled_number signed_number
  value-plus is h read = read ∙ low_half (is_minus bits n) refl is h

  pub value-minus : {z : ℤ} → x ≡ filled_number true bits n → 2 ^ 63 ≤ x → z ≡ negsuc (2 ^ 64 - 1 - x) → z ≡ signed_number bits n
  unfolding filled_number signed_number
  value-minus is h read = read ∙ high_half (is_minus bits n) refl is h

-- ── bits ──

-- the top bit
top-number : (x : ℕ) (xs : List ℕ) → Below 2 (x ∷ xs) → top_bit (x ∷ xs) ≡ bits_number (x ∷ xs) / 2 ^ length xs
top-number x [] h = sym (div-one (x + 2 * 0) ∙ omega arith)
top-number x (y ∷ ys) h = top-number y ys h.1 ∙ sym (half (length ys) x (bits_number (y ∷ ys)) h.0)

pub top-minus : (bits : ℕ) (xs : List ℕ) → Below 2 xs → length xs ≡ bits → 1 ≤ bits → top_bit xs ≡ bits_number xs / 2 ^ (bits - 1)
top-minus bits [] h e some = absurd (omega arith)
top-minus bits (x ∷ xs) h e some = let same : length xs ≡ bits - 1 = omega arith in top-number x xs h ∙ ap (λ (k : ℕ). bits_number (x ∷ xs) / 2 ^ k) same

-- the exact value
pub value-number : (bits : ℕ) (xs : List ℕ) → Below 2 xs → length xs ≡ bits → 1 ≤ bits → value_of true xs ≡ signed_number bits (bits_number xs)
unfolding value_of signed_number
value-number bits xs h e some =
    ap₂ (λ (top k : ℕ). cond (eqb top 1) (negsuc (2 ^ k - suc (bits_number xs))) (pos (bits_number xs))) (top-minus bits xs h e some) e
