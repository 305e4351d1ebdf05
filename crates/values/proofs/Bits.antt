-- Laws of `Value`: how many bits there are, and which numbers they are.
-- Assumes nothing.
use Prim.Native.Nat.{ℕ, zero, suc, ◌+◌, ◌*◌, ◌-◌, ◌/◌, ◌^◌, ◌≤◌, ◌<◌}
use mathlib.Core.Path.{◌≡◌, refl, sym, ap, ◌∙◌, subst}
use mathlib.Core.Bool.{Bool, true, false, cond}
use mathlib.Core.List.{List, [], ◌∷◌, ◌++◌}
use native.Mathlib.Nat.{add-sub_of_le, mul_right_comm, mul-suc, pow-suc}
use native.Mathlib.Omega.{arith}
use borrow.Author.Tests.{eqb-true, eqb-false}
use lib.Dec.{eqb}
use lib.IntN.{ℤ, pos, negsuc}
use lib.Pow.{pow-add}
use lib.ListN.{length, replicate, length-append, length-replicate}
use Rattle.paper.specs.rules.Span.{Span}
use Rattle.values.specs.Value.{bits_of, record_bits, bits_number, top_bit, value_of, filled_up, span_bits}
use Rattle.paper.specs.terms.Fit.{Below}
use Rattle.paper.proofs.bytes.Bytes.{below-append, below-take, below-drop}

-- ── how many, and each 0 or 1 ──

pub length-bits_of : (k x : ℕ) → length (bits_of k x) ≡ k
length-bits_of zero x = refl
length-bits_of (suc k) x = ap suc (length-bits_of k (x / 2))

pub length-record_bits : (s : List ℕ) → length (record_bits s) ≡ 8 * length s
length-record_bits [] = refl
length-record_bits (x ∷ s) =
    let rest = length-record_bits s in
    length-append (bits_of 8 x) (record_bits s) ∙ omega arith

bits-bits_of : (k x : ℕ) → Below 2 (bits_of k x)
bits-bits_of zero x = tt
bits-bits_of (suc k) x = (omega arith, bits-bits_of k (x / 2))

pub bits-record_bits : (s : List ℕ) → Below 2 (record_bits s)
bits-record_bits [] = tt
bits-record_bits (x ∷ s) = below-append 2 (bits_of 8 x) (record_bits s) (bits-bits_of 8 x) (bits-record_bits s)

pub bits-span_bits : (p : Span) (s : List ℕ) → Below 2 (span_bits p s)
unfolding span_bits
bits-span_bits p s = below-take 2 p.size _ (below-drop 2 p.from _ (bits-record_bits s))

-- ── numbers ──

-- an unsigned value is below 2^bits
pub number_bound : (xs : List ℕ) → Below 2 xs → bits_number xs < 2 ^ length xs
number_bound [] h = omega arith
number_bound (x ∷ xs) h =
    let rest = number_bound xs h.1 in let twice = pow-suc 2 (length xs) in let low = h.0 in omega arith

pub number_append : (xs ys : List ℕ) → bits_number (xs ++ ys) ≡ bits_number xs + 2 ^ length xs * bits_number ys
number_append [] ys = omega arith
number_append (x ∷ xs) ys =
    let rest = number_append xs ys in
    let twice = ap (λ (p : ℕ). p * bits_number ys) (pow-suc 2 (length xs)) ∙ mul_right_comm (2 ^ length xs) 2 (bits_number ys) in
    omega arith

-- ── the sign ──

pub top-bit : (xs : List ℕ) → Below 2 xs → top_bit xs < 2
top-bit [] h = omega arith
top-bit (x ∷ []) h = h.0
top-bit (x ∷ y ∷ ys) h = top-bit (y ∷ ys) h.1

not-one : (b : ℕ) → b < 2 → eqb b 1 ≡ false → b ≡ 0
not-one zero h e = refl
not-one (suc zero) h e = absurd (eqb-false 1 1 e refl)
not-one (suc (suc b)) h e = absurd (omega arith)

top-low : (x : ℕ) (xs : List ℕ) → Below 2 (x ∷ xs) → top_bit (x ∷ xs) ≡ 0 → bits_number (x ∷ xs) < 2 ^ length xs
top-low x [] h e = omega arith
top-low x (y ∷ ys) h e =
    let rest = top-low y ys h.1 e in let twice = pow-suc 2 (length ys) in let low = h.0 in omega arith

top-high : (x : ℕ) (xs : List ℕ) → top_bit (x ∷ xs) ≡ 1 → 2 ^ length xs ≤ bits_number (x ∷ xs)
top-high x [] e = omega arith
top-high x (y ∷ ys) e = let rest = top-high y ys e in let twice = pow-suc 2 (length ys) in omega arith

-- an integer that a sign and so many bits hold: from -2^bits to 2^bits - 1
abbrev pub Signed : ℕ → ℤ → Type 0
Signed n (pos k) = k < 2 ^ n
Signed n (negsuc k) = k < 2 ^ n

-- a signed value is "between -2^(bits-1) and 2^(bits-1) - 1"
pub value-signed : (n : ℕ) (xs : List ℕ) → Below 2 xs → length xs ≡ suc n → Signed n (value_of true xs)
unfolding value_of
value-signed n [] h e = absurd (omega arith)
value-signed n (x ∷ xs) h e =
    let same : length xs ≡ n = omega arith in
    subst (λ (k : ℕ). Signed k (value_of true (x ∷ xs))) same (go (eqb (top_bit (x ∷ xs)) 1) refl)
  where
    go : (b : Bool) → eqb (top_bit (x ∷ xs)) 1 ≡ b
        → Signed (length xs) (cond b (negsuc (2 ^ suc (length xs) - suc (bits_number (x ∷ xs)))) (pos (bits_number (x ∷ xs))))
    go true e =
        let high = top-high x xs (eqb-true _ _ e) in let twice = pow-suc 2 (length xs) in let all = number_bound (x ∷ xs) h in omega arith
    go false e = top-low x xs h (not-one (top_bit (x ∷ xs)) (top-bit (x ∷ xs) h) e)

-- ── filled up to 128 bits ──

pub length-filled : (signed : Bool) (xs : List ℕ) → length xs ≤ 128 → length (filled_up signed xs) ≡ 128
unfolding filled_up
length-filled signed xs h =
    let fill = length-replicate (128 - length xs) (cond signed (top_bit xs) 0) in
    length-append xs (replicate (128 - length xs) (cond signed (top_bit xs) 0)) ∙ omega arith

bits-replicate : (n b : ℕ) → b < 2 → Below 2 (replicate n b)
bits-replicate zero b h = tt
bits-replicate (suc n) b h = (h, bits-replicate n b h)

pub bits-filled : (signed : Bool) (xs : List ℕ) → Below 2 xs → Below 2 (filled_up signed xs)
unfolding filled_up
bits-filled false xs h = below-append 2 xs _ h (bits-replicate (128 - length xs) 0 (omega arith))
bits-filled true xs h = below-append 2 xs _ h (bits-replicate (128 - length xs) (top_bit xs) (top-bit xs h))

zeros-number : (n : ℕ) → bits_number (replicate n 0) ≡ 0
zeros-number zero = refl
zeros-number (suc n) = let rest = zeros-number n in omega arith

ones-number : (n : ℕ) → suc (bits_number (replicate n 1)) ≡ 2 ^ n
ones-number zero = refl
ones-number (suc n) = let rest = ones-number n in let twice = pow-suc 2 n in omega arith

-- a number of 128 bits stands for an integer: the integer itself, or 2^128 more where that is negative
abbrev pub StandsFor : ℕ → ℤ → Type 0
StandsFor x (pos k) = x ≡ k
StandsFor x (negsuc k) = x + suc k ≡ 2 ^ 128

module _ (xs : List ℕ) (bits : Below 2 xs) where
  pub with-zeros : (n : ℕ) → bits_number (xs ++ replicate n 0) ≡ bits_number xs
  with-zeros n =
      number_append xs (replicate n 0) ∙ ap (λ (k : ℕ). bits_number xs + 2 ^ length xs * k) (zeros-number n) ∙ omega arith

  pub with-ones : (n : ℕ) → length xs ≤ n
      → bits_number (xs ++ replicate (n - length xs) 1) + suc (2 ^ length xs - suc (bits_number xs)) ≡ 2 ^ n
  with-ones n few =
      let below = number_bound xs bits in
      let more = mul-suc (2 ^ length xs) (bits_number (replicate (n - length xs) 1)) in
      let ones = ap (λ (k : ℕ). 2 ^ length xs * k) (ones-number (n - length xs)) in
      let whole = sym (pow-add 2 (length xs) (n - length xs)) ∙ ap (λ (k : ℕ). 2 ^ k) (add-sub_of_le few) in
      let said = number_append xs (replicate (n - length xs) 1) in
      omega arith

  -- the sixteen bytes that a span is filled up to are the value's
  pub filled-value : length xs ≤ 128 → (signed : Bool) → StandsFor (bits_number (filled_up signed xs)) (value_of signed xs)
  unfolding filled_up value_of
  filled-value few false = with-zeros (128 - length xs)
  filled-value few true = go (top_bit xs) (top-bit xs bits)
    where
      go : (b : ℕ) → b < 2
          → StandsFor (bits_number (xs ++ replicate (128 - length xs) b)) (cond (eqb b 1) (negsuc (2 ^ length xs - suc (bits_number xs))) (pos (bits_number xs)))
      go zero h = with-zeros (128 - length xs)
      go (suc zero) h = with-ones 128 few
      go (suc (suc b)) h = absurd (omega arith)
