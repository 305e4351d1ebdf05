-- Laws of reading whole bytes: words, three bytes, and all of a short record.
-- Assumes nothing.
use Prim.Native.Nat.{ℕ, zero, suc, ◌+◌, ◌*◌, ◌-◌, ◌%◌, ◌^◌, ◌≤◌, ◌<◌}
use mathlib.Core.Path.{◌≡◌, refl, sym, ap, ap₂, ◌∙◌, subst}
use mathlib.Core.List.{List, [], ◌∷◌, reverse}
use native.Mathlib.Nat.{add_comm}
use native.Mathlib.Omega.{arith}
use lib.ListN.{length, get_or, take, drop, length-drop, length-reverse}
use Rattle.std.proofs.lemmas.List.{get_or-reverse}
use lib.Pow.{mod-pow-add}
use lib.Seq.{take_all, drop-length, drop-cons}
use Rattle.paper.proofs.bytes.Bytes.{below-drop}
use Rattle.paper.specs.declared.Order.TheVariants.{LowFirst}
use Rattle.paper.specs.rules.Word.{first_word, word_at}
use Rattle.paper.specs.terms.Fit.{Bytes}
use Rattle.values.proofs.BitNumbers.{number-cons, number-from, number-first, number-first-below}
use Rattle.values.specs.Promised.{record_number}

no_bytes : record_number [] ≡ 0
unfolding record_number
no_bytes = refl

number-byte : (x : ℕ) (s : List ℕ) → x < 256 → record_number (x ∷ s) ≡ x + 256 * record_number s
number-byte x s h = let all = number-cons x s in omega arith

number-4 : (a b c d : ℕ) → a < 256 → b < 256 → c < 256 → d < 256 → a * 1 + b * 256 + c * 65536 + d * 16777216 ≡ record_number (a ∷ b ∷ c ∷ d ∷ [])
number-4 a b c d la lb lc ld =
    let none = no_bytes in
    let nd = number-byte d [] ld in
    let nc = number-byte c (d ∷ []) lc in
    let nb = number-byte b (c ∷ d ∷ []) lb in
    let na = number-byte a (b ∷ c ∷ d ∷ []) la in
    omega arith

-- a word is the number of four bytes
first-word : (s : List ℕ) → Bytes s → 4 ≤ length s → first_word LowFirst s ≡ record_number (take 4 s)
first-word [] h inside = absurd (omega arith)
first-word (a ∷ []) h inside = absurd (omega arith)
first-word (a ∷ b ∷ []) h inside = absurd (omega arith)
first-word (a ∷ b ∷ c ∷ []) h inside = absurd (omega arith)
first-word (a ∷ b ∷ c ∷ d ∷ s) h inside = number-4 a b c d h.0 h.1.0 h.1.1.0 h.1.1.1.0

module _ (s : List ℕ) (bytes : Bytes s) {low : ℕ} (read : low ≡ word_at LowFirst s 0) (inside : 4 ≤ length s) where
  low_word : low ≡ record_number s % 2 ^ 32
  unfolding word_at
  low_word = read ∙ first-word s bytes inside ∙ number-first 4 s

  -- two words
  pub read-eight : {high : ℕ} → high ≡ word_at LowFirst s 4 → 8 ≤ length s → low + high * 4294967296 ≡ record_number (take 8 s)
  unfolding word_at
  read-eight next all =
      let left = length-drop 4 s in
      ap₂ (λ (m n : ℕ). m + n * 4294967296) low_word
      (next ∙ first-word (drop 4 s) (below-drop 256 4 s bytes) (omega arith) ∙ number-first 4 (drop 4 s) ∙ ap (λ (n : ℕ). n % 2 ^ 32) (number-from 4 s))
      ∙ add_comm _ _
      ∙ sym (mod-pow-add (record_number s) 32 32)
      ∙ sym (number-first 8 s)

-- ── a short record, from its last byte on ──

pub record FewInv (s : List ℕ) (n i : ℕ) : Type 0 where
  pub passed : n ≡ record_number (drop i s)
  pub inside : i ≤ length s

pub few-start : (s : List ℕ) {i : ℕ} → i ≡ length s → FewInv s 0 i
few-start s e = record { passed = sym (ap (λ (k : ℕ). record_number (drop k s)) e ∙ ap record_number (drop-length s) ∙ no_bytes); inside = omega arith }

pub few-below : (s : List ℕ) → length s < 8 → {n i : ℕ} → FewInv s n i → n < 2 ^ 56
few-below s short {n} {i} inv =
    let left = length-drop i s in
    subst (λ (k : ℕ). k < 2 ^ 56) (ap record_number (take_all 7 (drop i s) (omega arith)) ∙ sym inv.passed) (number-first-below 7 (drop i s))

pub few-step : (s : List ℕ) {n i : ℕ} → FewInv s n i → 0 < i → get_or s (i - 1) 0 < 256 → FewInv s (n * 256 + get_or s (i - 1) 0) (i - 1)
few-step s {n} {i} inv more byte =
    let in-s = inv.inside in
    let back : suc (i - 1) ≡ i = omega arith in
    let first = number-byte (get_or s (i - 1) 0) (drop (suc (i - 1)) s) byte in
    let rest : record_number (drop (suc (i - 1)) s) ≡ n = ap (λ (k : ℕ). record_number (drop k s)) back ∙ sym inv.passed in
    let at = ap record_number (drop-cons s (i - 1) 0 (omega arith)) in
    record { passed = omega arith; inside = omega arith }

-- the byte that a walk from the last on comes to, behind so many
within : (s : List ℕ) (i d : ℕ) → i < length s → get_or s i d ≡ get_or s i 0
within [] i d h = absurd (omega arith)
within (c ∷ s) zero d h = refl
within (c ∷ s) (suc i) d h = within s i d (omega arith)

module _ (s : List ℕ) {k b : ℕ} (turn : (k < length (reverse s)) × (b ≡ get_or (reverse s) k b)) where
  few-in : k < length s
  few-in = omega (arith, turn.0, length-reverse s)

  few-is : b ≡ get_or s (length s - k - 1) 0
  few-is =
      let same : length s - 1 - k ≡ length s - k - 1 = omega arith in
      turn.1 ∙ get_or-reverse s k b few-in ∙ within s (length s - 1 - k) b (omega (arith, few-in)) ∙ ap (λ (j : ℕ). get_or s j 0) same

  module _ (bytes : (i : ℕ) → get_or s i 0 < 256) where
    pub few-byte : b < 256
    few-byte = omega (arith, few-is, bytes (length s - k - 1))

    pub few-turn : {n m : ℕ} → FewInv s n (length s - k) → m ≡ k + 1 → FewInv s (n * 256 + b) (length s - m)
    few-turn {n} {m} inv e =
        let next : length s - k - 1 ≡ length s - m = omega arith in
        subst (FewInv s (n * 256 + b)) next
        (subst (λ (c : ℕ). FewInv s (n * 256 + c) (length s - k - 1)) (sym few-is)
        (few-step s inv (omega (arith, few-in)) (bytes (length s - k - 1))))

pub few-done : (s : List ℕ) {n i : ℕ} → FewInv s n i → i ≤ 0 → n ≡ record_number s
few-done s {n} {i} inv h = let none : i ≡ 0 = omega arith in inv.passed ∙ ap (λ (k : ℕ). record_number (drop k s)) none
