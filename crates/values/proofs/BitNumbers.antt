-- Laws of bits as numbers: a part of the bits is a quotient's remainder, and a record's bits are its bytes' number.
-- Assumes nothing.
use Prim.Native.Nat.{ℕ, zero, suc, ◌+◌, ◌*◌, ◌/◌, ◌%◌, ◌^◌, ◌<◌}
use mathlib.Core.Path.{◌≡◌, refl, sym, ap, ◌∙◌, subst}
use mathlib.Core.List.{List, [], ◌∷◌, ◌++◌}
use native.Mathlib.Nat.{pow-suc, div-one, mod-one, zero-div, zero-mod, mod-lt, div-div-eq-div-mul, mul_comm}
use native.Mathlib.Omega.{arith}
use lib.Arith.{mod-mul}
use lib.Pow.{pow_pos}
use lib.ListN.{take, drop}
use lib.Seq.{take-nil, drop-nil, take-append-add, drop-append-add}
use Rattle.paper.proofs.bytes.Bytes.{below-drop}
use Rattle.paper.specs.terms.Fit.{Below}
use Rattle.values.proofs.Bits.{bits-record_bits, number_append}
use Rattle.values.specs.Promised.{record_number, number_at}
use Rattle.values.specs.Value.{bits_of, record_bits, bits_number}

-- ── a part of some bits ──

-- the number without its lowest bit, and so halved
pub half : (n x b : ℕ) → x < 2 → (x + 2 * b) / 2 ^ suc n ≡ b / 2 ^ n
half n x b h =
    let halved : (x + 2 * b) / 2 ≡ b = omega arith in
    ap (λ (k : ℕ). (x + 2 * b) / k) (pow-suc 2 n ∙ mul_comm (2 ^ n) 2)
    ∙ sym (div-div-eq-div-mul (x + 2 * b) 2 (2 ^ n))
    ∙ ap (λ (k : ℕ). k / 2 ^ n) halved

twice : (n x : ℕ) → x % 2 ^ suc n ≡ x % 2 + 2 * (x / 2 % 2 ^ n)
twice n x =
    let cut = mod-mul x {m = 2 ^ n} {c = 2} (pow_pos n) (omega arith) in
    ap (λ (k : ℕ). x % k) (pow-suc 2 n) ∙ omega arith

pub number-drop : (n : ℕ) (xs : List ℕ) → Below 2 xs → bits_number (drop n xs) ≡ bits_number xs / 2 ^ n
number-drop zero xs h = sym (div-one (bits_number xs))
number-drop (suc n) [] h = sym (zero-div (2 ^ suc n))
number-drop (suc n) (x ∷ xs) h = number-drop n xs h.1 ∙ sym (half n x (bits_number xs) h.0)

pub number-take : (n : ℕ) (xs : List ℕ) → Below 2 xs → bits_number (take n xs) ≡ bits_number xs % 2 ^ n
number-take zero xs h = sym (mod-one (bits_number xs))
number-take (suc n) [] h = sym (zero-mod (2 ^ suc n))
number-take (suc n) (x ∷ xs) h =
    let rest = number-take n xs h.1 in
    let low = h.0 in
    let all = twice n (x + 2 * bits_number xs) in
    let halved : (x + 2 * bits_number xs) / 2 ≡ bits_number xs = omega arith in
    let same = ap (λ (k : ℕ). k % 2 ^ n) halved in
    omega arith

pub number-bits_of : (k x : ℕ) → bits_number (bits_of k x) ≡ x % 2 ^ k
number-bits_of zero x = sym (mod-one x)
number-bits_of (suc k) x = ap (λ (n : ℕ). x % 2 + 2 * n) (number-bits_of k (x / 2)) ∙ sym (twice k x)

-- ── a record's bytes ──

pub number-part : (from bits : ℕ) (s : List ℕ) → number_at from bits s ≡ record_number s / 2 ^ from % 2 ^ bits
unfolding number_at record_number
number-part from bits s =
    number-take bits (drop from (record_bits s)) (below-drop 2 from (record_bits s) (bits-record_bits s))
    ∙ ap (λ (n : ℕ). n % 2 ^ bits) (number-drop from (record_bits s) (bits-record_bits s))

pub number-below : (from bits : ℕ) (s : List ℕ) → number_at from bits s < 2 ^ bits
number-below from bits s = subst (λ (n : ℕ). n < 2 ^ bits) (sym (number-part from bits s)) (mod-lt _ (pow_pos bits))

pub number-cons : (x : ℕ) (s : List ℕ) → record_number (x ∷ s) ≡ x % 256 + 256 * record_number s
unfolding record_number
number-cons x s = let low = number-bits_of 8 x in number_append (bits_of 8 x) (record_bits s) ∙ omega arith

pub record_bits-drop : (k : ℕ) (s : List ℕ) → record_bits (drop k s) ≡ drop (8 * k) (record_bits s)
record_bits-drop zero s = refl
record_bits-drop (suc k) [] = sym (drop-nil (8 * suc k))
record_bits-drop (suc k) (x ∷ s) =
    let eight : 8 * suc k ≡ 8 + 8 * k = omega arith in
    record_bits-drop k s
    ∙ sym (ap (λ (n : ℕ). drop n (bits_of 8 x ++ record_bits s)) eight ∙ drop-append-add (bits_of 8 x) (record_bits s) (8 * k))

pub record_bits-take : (k : ℕ) (s : List ℕ) → record_bits (take k s) ≡ take (8 * k) (record_bits s)
record_bits-take zero s = refl
record_bits-take (suc k) [] = sym (take-nil (8 * suc k))
record_bits-take (suc k) (x ∷ s) =
    let eight : 8 * suc k ≡ 8 + 8 * k = omega arith in
    ap (λ (xs : List ℕ). bits_of 8 x ++ xs) (record_bits-take k s)
    ∙ sym (ap (λ (n : ℕ). take n (bits_of 8 x ++ record_bits s)) eight ∙ take-append-add (bits_of 8 x) (record_bits s) (8 * k))

-- the bytes from a place on
pub number-from : (p : ℕ) (s : List ℕ) → record_number (drop p s) ≡ record_number s / 2 ^ (8 * p)
unfolding record_number
number-from p s = ap bits_number (record_bits-drop p s) ∙ number-drop (8 * p) (record_bits s) (bits-record_bits s)

-- the first so many
pub number-first : (k : ℕ) (s : List ℕ) → record_number (take k s) ≡ record_number s % 2 ^ (8 * k)
unfolding record_number
number-first k s = ap bits_number (record_bits-take k s) ∙ number-take (8 * k) (record_bits s) (bits-record_bits s)

pub number-first-below : (k : ℕ) (s : List ℕ) → record_number (take k s) < 2 ^ (8 * k)
number-first-below k s = subst (λ (n : ℕ). n < 2 ^ (8 * k)) (sym (number-first k s)) (mod-lt _ (pow_pos (8 * k)))
