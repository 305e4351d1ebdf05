-- Laws of the words of a run of bytes: the word at a place, and a slice that is filled with them from the front.
-- Assumes nothing.
use Prim.Native.Nat.{ℕ, zero, suc, ◌+◌, ◌-◌, ◌*◌, ◌/◌, ◌<◌, ◌≤◌}
use mathlib.Core.Path.{◌≡◌, refl, sym, ap, ◌∙◌}
use mathlib.Core.List.{List, [], ◌∷◌}
use native.Mathlib.Numerals.{add-one}
use native.Mathlib.Omega.{arith}
use lib.ListN.{length, get_or, set, take, drop, length-set}
use lib.Seq.{take-suc, take-suc-set, take_all}
use Rattle.paper.proofs.bytes.Bytes.{part-rest, length-words}
use Rattle.paper.specs.declared.Order.TheVariants.{LowFirst}
use Rattle.paper.specs.rules.Word.{first_word, words, word_at}

-- the i-th word begins four bytes for each word before it
pub words-at : (b : List ℕ) (i p : ℕ) → p ≡ 4 * i → i < length (words LowFirst b) → get_or (words LowFirst b) i 0 ≡ first_word LowFirst (drop p b)
words-at [] i p e h = absurd (omega arith)
words-at (b ∷ []) i p e h = absurd (omega arith)
words-at (b ∷ c ∷ []) i p e h = absurd (omega arith)
words-at (b ∷ c ∷ d ∷ []) i p e h = absurd (omega arith)
words-at (a ∷ b ∷ c ∷ d ∷ s) zero zero e h = refl
words-at (a ∷ b ∷ c ∷ d ∷ s) zero (suc p) e h = absurd (omega arith)
words-at (a ∷ b ∷ c ∷ d ∷ s) (suc i) zero e h = absurd (omega arith)
words-at (a ∷ b ∷ c ∷ d ∷ s) (suc i) (suc zero) e h = absurd (omega arith)
words-at (a ∷ b ∷ c ∷ d ∷ s) (suc i) (suc (suc zero)) e h = absurd (omega arith)
words-at (a ∷ b ∷ c ∷ d ∷ s) (suc i) (suc (suc (suc zero))) e h = absurd (omega arith)
words-at (a ∷ b ∷ c ∷ d ∷ s) (suc i) (suc (suc (suc (suc p)))) e h = words-at s i p (omega arith) (omega arith)

-- so far into a slice of n places, it has the words of the bytes
pub record Filling (b s : List ℕ) (n i : ℕ) : Type 0 where
  pub room : n ≡ length b / 4
  pub long : length s ≡ n
  pub inside : i ≤ n
  pub filled : take i s ≡ take i (words LowFirst b)

pub filling-start : {b s : List ℕ} → length s ≡ length b / 4 → Filling b s (length s) 0
filling-start e = record { room = e; long = refl; inside = omega arith; filled = refl }

-- the next word is wholly inside
pub filling-inside : {b s : List ℕ} {n i : ℕ} → Filling b s n i → i < length s → 4 * i + 4 ≤ length b
filling-inside {b} g h = let room = g.room in let long = g.long in omega arith

-- the word that the bytes behind those of the words before it begin with is stored
pub filling-next : {b s : List ℕ} {n i v : ℕ} → Filling b s n i → i < length s → v ≡ word_at LowFirst (take (length b - 4 * i) (drop (4 * i) b)) 0
    → Filling b (set s i v) n (i + 1)
unfolding word_at
filling-next {b} {s} {n} {i} {v} g h e =
    let there : i < length (words LowFirst b) = omega (arith, length-words LowFirst b, g.room, g.long) in
    let word : v ≡ get_or (words LowFirst b) i 0 = e ∙ ap (first_word LowFirst) (part-rest b (4 * i)) ∙ sym (words-at b i (4 * i) refl there) in
    record {
      room = g.room;
      long = length-set s i v ∙ g.long;
      inside = omega (arith, g.long);
      filled = rw add-one (take-suc-set s i v h ∙ rw (word, g.filled) (sym (take-suc (words LowFirst b) i 0 there)));
    }

-- at the end the slice is the words
pub filling-end : {b s : List ℕ} {n i : ℕ} → Filling b s n i → length s ≤ i → s ≡ words LowFirst b
filling-end {b} {s} {n} {i} g h =
    sym (take_all i s h) ∙ g.filled ∙ take_all i (words LowFirst b) (omega (arith, length-words LowFirst b, g.room, g.long))
