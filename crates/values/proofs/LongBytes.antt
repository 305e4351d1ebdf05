-- Laws of a span of more than 64 bits: its sixteen bytes are those of two numbers, its low 64 bits and the others filled up.
-- Assumes nothing.
use Prim.Native.Nat.{ℕ, zero, suc, ◌+◌, ◌*◌, ◌-◌, ◌/◌, ◌%◌, ◌^◌, ◌≤◌, ◌<◌}
use mathlib.Core.Path.{◌≡◌, refl, sym, ap, ap₂, ◌∙◌}
use mathlib.Core.Bool.{Bool, true, false, cond}
use mathlib.Core.List.{List, ◌∷◌, ◌++◌}
use native.Mathlib.Nat.{add_comm}
use native.Mathlib.Omega.{arith}
use lib.Dec.{eqb}
use lib.Pow.{shr-shr}
use lib.ListN.{length, take, drop, replicate, length-drop}
use lib.Seq.{take-append-le, drop-append-le, drop-drop}
use Rattle.paper.proofs.bytes.Bytes.{below-drop, part-rest}
use Rattle.paper.specs.declared.Order.TheVariants.{LowFirst}
use Rattle.paper.specs.rules.Span.{Span}
use Rattle.paper.specs.rules.Word.{put_word}
use Rattle.paper.specs.terms.Fit.{Below}
use Rattle.values.proofs.Bits.{bits-span_bits, bits-filled, top-bit, with-zeros, with-ones}
use Rattle.values.proofs.BitNumbers.{number-drop, number-take, number-part, number-from}
use Rattle.values.proofs.SignNumbers.{top-minus}
use Rattle.values.proofs.Spans.{length-span_bits}
use Rattle.values.proofs.Windows.{mod_low, mod-field}
use Rattle.values.specs.Given.{bytes_in}
use Rattle.values.specs.Promised.{record_number, number_at, filled_number, bytes_from}
use Rattle.values.specs.Value.{bits_number, top_bit, filled_up, span_bits}

-- ── bytes of a number ──

bytes-number : (k i : ℕ) (xs : List ℕ) → Below 2 xs → bytes_in k (drop (8 * i) xs) ≡ bytes_from k i (bits_number xs)
bytes-number zero i xs h = refl
bytes-number (suc k) i xs h =
    let next : 8 * i + 8 ≡ 8 * suc i = omega arith in
    ap₂ {C = List ℕ} ◌∷◌
    (number-take 8 (drop (8 * i) xs) (below-drop 2 (8 * i) xs h) ∙ ap (λ (n : ℕ). n % 256) (number-drop (8 * i) xs h))
    (ap (bytes_in k) (drop-drop 8 (8 * i) xs ∙ ap (λ (j : ℕ). drop j xs) next) ∙ bytes-number k (suc i) xs h)

-- so many bytes of the low part, and the others of the high one
bytes_low : (m k i n : ℕ) → i + k ≤ m → bytes_from k i n ≡ bytes_from k i (n % 2 ^ (8 * m))
bytes_low m zero i n h = refl
bytes_low m (suc k) i n h =
    ap₂ {C = List ℕ} ◌∷◌
    (sym (ap (λ (x : ℕ). x % 256) (mod-field n {k = 8 * m} {d = 8 * i} (omega arith)) ∙ mod_low (n / 2 ^ (8 * i)) {k = 8 * m - 8 * i} {n = 8} (omega arith)))
    (bytes_low m k (suc i) n (omega arith))

bytes_high : (m k i j n : ℕ) → j ≡ m + i → bytes_from k j n ≡ bytes_from k i (n / 2 ^ (8 * m))
bytes_high m zero i j n e = refl
bytes_high m (suc k) i j n e =
    let place : 8 * m + 8 * i ≡ 8 * j = omega arith in
    ap₂ {C = List ℕ} ◌∷◌
    (sym (ap (λ (x : ℕ). x % 256) (shr-shr n (8 * m) (8 * i) ∙ ap (λ (d : ℕ). n / 2 ^ d) place)))
    (bytes_high m k (suc i) (suc j) n (omega arith))

bytes-16 : (xs : List ℕ) → Below 2 xs → bytes_in 16 xs ≡ bytes_from 8 0 (bits_number xs % 2 ^ 64) ++ bytes_from 8 0 (bits_number xs / 2 ^ 64)
bytes-16 xs h =
    bytes-number 16 0 xs h ∙ ap₂ {C = List ℕ} ◌++◌ (bytes_low 8 8 0 (bits_number xs) (omega arith)) (bytes_high 8 8 0 8 (bits_number xs) refl)

-- ── bytes of two numbers, written word by word ──

words-16 : (a b c d : ℕ) → put_word LowFirst (put_word LowFirst (put_word LowFirst (put_word LowFirst (replicate 16 0) 0 a) 4 b) 8 c) 12 d
    ≡ bytes_from 4 0 a ++ bytes_from 4 0 b ++ bytes_from 4 0 c ++ bytes_from 4 0 d
unfolding put_word
words-16 a b c d = refl

bytes_8 : (n : ℕ) → bytes_from 4 0 (n % 2 ^ 32) ++ bytes_from 4 0 (n / 2 ^ 32) ≡ bytes_from 8 0 n
bytes_8 n = sym (ap₂ {C = List ℕ} ◌++◌ (bytes_low 4 4 0 n (omega arith)) (bytes_high 4 4 0 4 n refl))

pub read-16 : {o₁ o₂ o₃ o₄ : List ℕ} (a b : ℕ) → o₁ ≡ put_word LowFirst (replicate 16 0) 0 (a % 2 ^ 32) → o₂ ≡ put_word LowFirst o₁ 4 (a / 2 ^ 32)
    → o₃ ≡ put_word LowFirst o₂ 8 (b % 2 ^ 32) → o₄ ≡ put_word LowFirst o₃ 12 (b / 2 ^ 32) → o₄ ≡ bytes_from 8 0 a ++ bytes_from 8 0 b
read-16 a b e₁ e₂ e₃ e₄ =
    e₄
    ∙ ap (λ (o : List ℕ). put_word LowFirst o 12 (b / 2 ^ 32)) (
    e₃
    ∙ ap (λ (o : List ℕ). put_word LowFirst o 8 (b % 2 ^ 32)) (e₂ ∙ ap (λ (o : List ℕ). put_word LowFirst o 4 (a / 2 ^ 32)) e₁)
    )
    ∙ words-16 (a % 2 ^ 32) (a / 2 ^ 32) (b % 2 ^ 32) (b / 2 ^ 32)
    ∙ ap₂ {C = List ℕ} ◌++◌ (bytes_8 a) (bytes_8 b)

-- ── filled up to 64 bits ──

with-sign : (ys : List ℕ) → Below 2 ys → length ys ≤ 64 → (b : ℕ) → b < 2
    → bits_number (ys ++ replicate (64 - length ys) b) ≡ cond (eqb b 1) (2 ^ 64 - suc (2 ^ length ys - suc (bits_number ys))) (bits_number ys)
with-sign ys h few zero l = with-zeros ys h (64 - length ys)
with-sign ys h few (suc zero) l = let ones = with-ones ys h 64 few in omega arith
with-sign ys h few (suc (suc b)) l = absurd (omega arith)

-- ── a span ──

module _ (s : List ℕ) (from bits : ℕ) (signed : Bool) (long : 64 < bits) (few : bits ≤ 128) (inside : from + bits ≤ 8 * length s) where
  abbrev span : Span
  span = record { from = from; size = bits }

  xs : List ℕ
  xs = span_bits span s

  number : bits_number xs ≡ record_number s / 2 ^ from % 2 ^ bits
  unfolding xs span_bits number_at
  number = number-part from bits s

  many : length xs ≡ bits
  unfolding xs
  many = length-span_bits span s inside

  each : Below 2 xs
  unfolding xs
  each = bits-span_bits span s

  low_word : bits_number (filled_up signed xs) % 2 ^ 64 ≡ number_at from 64 s
  unfolding filled_up
  low_word =
      let length-is = many in
      sym (number-take 64 (filled_up signed xs) (bits-filled signed xs each))
      ∙ ap bits_number (take-append-le 64 xs (replicate (128 - length xs) (cond signed (top_bit xs) 0)) (omega arith))
      ∙ number-take 64 xs each
      ∙ ap (λ (n : ℕ). n % 2 ^ 64) number
      ∙ mod_low (record_number s / 2 ^ from) {k = bits} {n = 64} (omega arith)
      ∙ sym (number-part from 64 s)

  ys : List ℕ
  ys = drop 64 xs

  rest : ℕ
  rest = number_at from (bits - 64) (drop 8 s)

  rest-number : bits_number ys ≡ rest
  unfolding ys rest
  rest-number =
      number-drop 64 xs each
      ∙ ap (λ (n : ℕ). n / 2 ^ 64) number
      ∙ mod-field (record_number s / 2 ^ from) {k = bits} {d = 64} (omega arith)
      ∙ ap (λ (n : ℕ). n % 2 ^ (bits - 64)) (
      shr-shr (record_number s) from 64
      ∙ ap (λ (k : ℕ). record_number s / 2 ^ k) (add_comm from 64)
      ∙ sym (shr-shr (record_number s) 64 from)
      ∙ ap (λ (n : ℕ). n / 2 ^ from) (sym (number-from 8 s))
      )
      ∙ sym (number-part from (bits - 64) (drop 8 s))

  rest-many : length ys ≡ bits - 64
  unfolding ys
  rest-many = length-drop 64 xs ∙ ap (λ (k : ℕ). k - 64) many

  -- the top bit of all is that of the rest
  rest-top : top_bit xs ≡ rest / 2 ^ (bits - 64 - 1)
  unfolding ys
  rest-top =
      let place : 64 + (bits - 64 - 1) ≡ bits - 1 = omega arith in
      top-minus bits xs each many (omega arith)
      ∙ sym (shr-shr (bits_number xs) 64 (bits - 64 - 1) ∙ ap (λ (k : ℕ). bits_number xs / 2 ^ k) place)
      ∙ ap (λ (n : ℕ). n / 2 ^ (bits - 64 - 1)) (sym (number-drop 64 xs each) ∙ rest-number)

  filled-rest : (b : ℕ) → b < 2
      → bits_number (drop 64 (xs ++ replicate (128 - length xs) b)) ≡ cond (eqb b 1) (2 ^ 64 - suc (2 ^ (bits - 64) - suc rest)) rest
  unfolding ys
  filled-rest b l =
      let length-is = many in
      let rest-is = rest-many in
      let room : 128 - length xs ≡ 64 - length ys = omega arith in
      ap bits_number (drop-append-le 64 xs (replicate (128 - length xs) b) (omega arith))
      ∙ ap (λ (k : ℕ). bits_number (ys ++ replicate k b)) room
      ∙ with-sign ys (below-drop 2 64 xs each) (omega arith) b l
      ∙ ap₂ (λ (k n : ℕ). cond (eqb b 1) (2 ^ 64 - suc (2 ^ k - suc n)) n) rest-many rest-number

  filled-high : (b : Bool) → bits_number (drop 64 (filled_up b xs)) ≡ filled_number b (bits - 64) rest
  unfolding filled_up filled_number
  filled-high false = filled-rest 0 (omega arith)
  filled-high true =
      filled-rest (top_bit xs) (top-bit xs each) ∙ ap (λ (top : ℕ). cond (eqb top 1) (2 ^ 64 - suc (2 ^ (bits - 64) - suc rest)) rest) rest-top

  high_word : bits_number (filled_up signed xs) / 2 ^ 64 ≡ filled_number signed (bits - 64) rest
  high_word = sym (number-drop 64 (filled_up signed xs) (bits-filled signed xs each)) ∙ filled-high signed

  -- as they are read
  pub read-long : {low high full : ℕ} {bytes : List ℕ} → low ≡ number_at from 64 s → high ≡ number_at from (bits - 64) (take (length s - 8) (drop 8 s))
      → full ≡ filled_number signed (bits - 64) high → bytes ≡ bytes_from 8 0 low ++ bytes_from 8 0 full → bytes ≡ bytes_in 16 (filled_up signed (span_bits span s))
  unfolding xs rest
  read-long low high full made =
      made
      ∙ ap₂ {C = List ℕ} (λ (m n : ℕ). bytes_from 8 0 m ++ bytes_from 8 0 n) (low ∙ sym low_word)
      (full ∙ ap (filled_number signed (bits - 64)) (high ∙ ap (number_at from (bits - 64)) (part-rest s 8)) ∙ sym high_word)
      ∙ sym (bytes-16 (filled_up signed xs) (bits-filled signed xs each))
