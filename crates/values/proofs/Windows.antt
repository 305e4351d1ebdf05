-- Laws of reading by eight bytes at a time: a span that lies in eight bytes, and one that takes a ninth.
-- Assumes nothing.
use Prim.Native.Nat.{ℕ, suc, ◌+◌, ◌*◌, ◌-◌, ◌/◌, ◌%◌, ◌^◌, ◌≤◌, ◌<◌}
use mathlib.Core.Path.{◌≡◌, sym, ap, ap₂, ◌∙◌, subst}
use mathlib.Core.List.{List, ◌∷◌}
use native.Mathlib.Nat.{add_comm, mod-lt, lt_of_lt_of_le}
use native.Mathlib.Omega.{arith}
use lib.Bits.{bit_and, and_mask}
use lib.Pow.{pow_pos, pow_mono, shr-shr, shl_exact, field, mod-mod-pow, mod-pow-add, ones_split, ones_lt, high}
use lib.ListN.{length, get_or, take, drop}
use lib.Seq.{drop-cons}
use Rattle.paper.proofs.bytes.Bytes.{part-rest}
use Rattle.values.proofs.BitNumbers.{number-part, number-below, number-cons, number-from, number-first}
use Rattle.values.specs.Promised.{record_number, number_at}

-- ── numbers ──

-- the low bits, by a mask of so many ones
pub masked : {ones : ℕ} (x bits : ℕ) → ones ≡ 2 ^ bits - 1 → bit_and x ones ≡ x % 2 ^ bits
masked x bits e = ap (bit_and x) e ∙ and_mask x bits

-- the low bits of some low bits
pub mod_low : (x : ℕ) {k n : ℕ} → n ≤ k → x % 2 ^ k % 2 ^ n ≡ x % 2 ^ n
mod_low x {k} {n} h =
    let all : k ≡ (k - n) + n = omega arith in
    ap (λ (j : ℕ). x % 2 ^ j % 2 ^ n) all ∙ mod-mod-pow x (k - n) n

-- a word without its lowest bits
pub mod-field : (x : ℕ) {k d : ℕ} → d ≤ k → x % 2 ^ k / 2 ^ d ≡ x / 2 ^ d % 2 ^ (k - d)
mod-field x {k} {d} h =
    let all : k ≡ (k - d) + d = omega arith in
    ap (λ (j : ℕ). x % 2 ^ j / 2 ^ d) all ∙ field x (k - d) d

-- a word of ones without its highest bits
pub ones_cut : {bits : ℕ} → bits ≤ 64 → (2 ^ 64 - 1) / 2 ^ (64 - bits) ≡ 2 ^ bits - 1
ones_cut {bits} h =
    let all : 64 ≡ bits + (64 - bits) = omega arith in
    ap (λ (k : ℕ). (2 ^ k - 1) / 2 ^ (64 - bits)) all
    ∙ ap (λ (n : ℕ). n / 2 ^ (64 - bits)) (ones_split bits (64 - bits))
    ∙ high (2 ^ bits - 1) (64 - bits) (ones_lt (64 - bits))

-- ── a span in the first eight bytes ──

-- these, without the bits before the span
shifted : (s : List ℕ) (from : ℕ) → from ≤ 64 → record_number (take 8 s) / 2 ^ from ≡ record_number s / 2 ^ from % 2 ^ (64 - from)
shifted s from few = ap (λ (n : ℕ). n / 2 ^ from) (number-first 8 s) ∙ mod-field (record_number s) few

module _ {w : ℕ} (s : List ℕ) (from bits : ℕ) (read : w ≡ record_number (take 8 s)) (few : from < 64) where
  first : w / 2 ^ from ≡ record_number s / 2 ^ from % 2 ^ (64 - from)
  first = ap (λ (n : ℕ). n / 2 ^ from) read ∙ shifted s from (omega arith)

  pub read-inside : {r : ℕ} → r ≡ w / 2 ^ from % 2 ^ bits → bits ≤ 64 - from → r ≡ number_at from bits s
  read-inside cut inside = cut ∙ ap (λ (n : ℕ). n % 2 ^ bits) first ∙ mod_low (record_number s / 2 ^ from) inside ∙ sym (number-part from bits s)

-- ── a span that takes a ninth ──

ninth : (s : List ℕ) (q m : ℕ) → q < length s → m ≤ 8 → record_number s / 2 ^ (8 * q) % 2 ^ m ≡ get_or s q 0 % 2 ^ m
ninth s q m inside few =
    let behind = number-cons (get_or s q 0) (drop (suc q) s) in
    let byte : record_number (get_or s q 0 ∷ drop (suc q) s) % 2 ^ 8 ≡ get_or s q 0 % 2 ^ 8 = omega arith in
    ap (λ (n : ℕ). n % 2 ^ m) (sym (number-from q s) ∙ ap record_number (drop-cons s q 0 inside))
    ∙ sym (mod_low (record_number (get_or s q 0 ∷ drop (suc q) s)) few)
    ∙ ap (λ (n : ℕ). n % 2 ^ m) byte
    ∙ mod_low (get_or s q 0) few

module _ {w next : ℕ} (s : List ℕ) (from bits : ℕ) (read : w ≡ record_number (take 8 s)) (low : next ≡ get_or s 8 0 % 2 ^ (bits - (64 - from)))
    (few : from < 64) (across : 64 - from < bits) (short : bits ≤ 64) (near : from + bits ≤ 72) (ends : from + bits ≤ 8 * length s) where
  pub read-across : w / 2 ^ from + next * 2 ^ (64 - from) % 2 ^ 64 ≡ number_at from bits s
  read-across =
      let left : ℕ = 64 - from in
      let more : ℕ = bits - left in
      let start : ℕ = record_number s / 2 ^ from in
      let word : from + left ≡ 64 = omega arith in
      let all : more + left ≡ bits = omega arith in
      let byte : next ≡ start / 2 ^ left % 2 ^ more =
      low ∙ sym (ap (λ (n : ℕ). n % 2 ^ more) (shr-shr (record_number s) from left ∙ ap (λ (k : ℕ). record_number s / 2 ^ k) word) ∙ ninth s 8 more (omega arith) (omega arith)) in
      let small : next < 2 ^ more = subst (λ (n : ℕ). n < 2 ^ more) (sym low) (mod-lt (get_or s 8 0) (pow_pos more)) in
      ap₂ ◌+◌ (first s from bits read few) (shl_exact more left 64 small (omega arith) ∙ ap (λ (n : ℕ). n * 2 ^ left) byte)
      ∙ add_comm _ _
      ∙ sym (mod-pow-add start more left)
      ∙ ap (λ (k : ℕ). start % 2 ^ k) all
      ∙ sym (number-part from bits s)

  pub across-fits : w / 2 ^ from + next * 2 ^ (64 - from) % 2 ^ 64 < 2 ^ 64
  across-fits = subst (λ (n : ℕ). n < 2 ^ 64) (sym read-across) (lt_of_lt_of_le (number-below from bits s) (pow_mono short))

-- ── the bytes from a place on ──

pub read-few : {w r : ℕ} (s : List ℕ) (from bits : ℕ) → w ≡ record_number s → r ≡ w / 2 ^ from % 2 ^ bits → r ≡ number_at from bits s
read-few s from bits read cut = cut ∙ ap (λ (n : ℕ). n / 2 ^ from % 2 ^ bits) read ∙ sym (number-part from bits s)

-- a span of the record is one of theirs
pub read-part : {r : ℕ} (s : List ℕ) (p from bits : ℕ) → 8 * p ≤ from → r ≡ number_at (from - 8 * p) bits (take (length s - p) (drop p s)) → r ≡ number_at from bits s
read-part s p from bits low read =
    let all : 8 * p + (from - 8 * p) ≡ from = omega arith in
    read
    ∙ ap (number_at (from - 8 * p) bits) (part-rest s p)
    ∙ number-part (from - 8 * p) bits (drop p s)
    ∙ ap (λ (n : ℕ). n / 2 ^ (from - 8 * p) % 2 ^ bits) (number-from p s)
    ∙ ap (λ (n : ℕ). n % 2 ^ bits) (shr-shr (record_number s) (8 * p) (from - 8 * p) ∙ ap (λ (k : ℕ). record_number s / 2 ^ k) all)
    ∙ sym (number-part from bits s)
