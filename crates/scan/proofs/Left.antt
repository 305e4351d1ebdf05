-- The words that are left from a place to an end, one word after the other.
-- Assumes nothing.
use Prim.Native.Nat.{ℕ, zero, suc, ◌+◌, ◌-◌, ◌*◌, ◌/◌, ◌≤◌}
use mathlib.Core.Path.{◌≡◌, sym, ap, ◌∙◌}
use mathlib.Core.List.{List, [], ◌∷◌}
use native.Mathlib.Omega.{arith}
use lib.ListN.{length, take, drop, length-drop}
use lib.Seq.{length-take-le}
use Rattle.paper.specs.rules.Header.{order_of, header_length, type_len}
use Rattle.paper.specs.rules.Walk.{type_words}
use Rattle.paper.specs.rules.Word.{words, word_at}
use Rattle.paper.proofs.bytes.Words.{drop-four, word_at-inside}
use Rattle.paper.proofs.bytes.Bytes.{length-words}

abbrev pub left : List ℕ → ℕ → ℕ → List ℕ
left b at end = words (order_of b) (take (end - at) (drop at b))

-- the words of the type section are those left from its first place
pub type_words-left : (b : List ℕ) → type_words b ≡ left b header_length (header_length + type_len b)
unfolding type_words
type_words-left b =
    let same : type_len b ≡ header_length + type_len b - header_length = omega arith in
    ap (λ (n : ℕ). words (order_of b) (take n (drop header_length b))) same

-- at the end none is left
pub left_end : (b : List ℕ) (end : ℕ) → left b end end ≡ []
left_end b end =
    let none : end - end ≡ 0 = omega arith in
    ap (λ (n : ℕ). words (order_of b) (take n (drop end b))) none

module _ (b : List ℕ) (end : ℕ) (inside : end ≤ length b) where
  pub left-length : (at : ℕ) → length (left b at end) ≡ (end - at) / 4
  left-length at =
      length-words (order_of b) (take (end - at) (drop at b))
      ∙ ap (λ (n : ℕ). n / 4) (length-take-le (end - at) (drop at b) (simp length-drop (omega arith)))

  -- the first of them is the word at the place
  pub left-cons : (at : ℕ) → at + 4 ≤ end → left b at end ≡ word_at (order_of b) b at ∷ left b (at + 4) end
  left-cons at h =
      let n = end - (at + 4) in
      let four : end - at ≡ suc (suc (suc (suc n))) = omega arith in
      ap (λ (m : ℕ). words (order_of b) (take m (drop at b))) four
      ∙ ap (λ (s : List ℕ). words (order_of b) (take (suc (suc (suc (suc n)))) s)) (drop-four b at (omega arith))
      ∙ ap (λ (w : ℕ). w ∷ left b (at + 4) end) (sym (word_at-inside (order_of b) b at (omega arith)))

  -- the first three are a record's head
  pub left-head : (at : ℕ) → at + 12 ≤ end
      → left b at end ≡ word_at (order_of b) b at ∷ word_at (order_of b) b (at + 4) ∷ word_at (order_of b) b (at + 8) ∷ left b (at + 12) end
  left-head at h =
      let eight : at + 4 + 4 ≡ at + 8 = omega arith in
      let twelve : at + 8 + 4 ≡ at + 12 = omega arith in
      left-cons at (omega arith)
      ∙ ap (λ (ws : List ℕ). word_at (order_of b) b at ∷ ws) (left-cons (at + 4) (omega arith)
      ∙ ap (λ (p : ℕ). word_at (order_of b) b (at + 4) ∷ left b p end) eight
      ∙ ap (λ (ws : List ℕ). word_at (order_of b) b (at + 4) ∷ ws) (left-cons (at + 8) (omega arith)
      ∙ ap (λ (p : ℕ). word_at (order_of b) b (at + 8) ∷ left b p end) twelve))

  -- behind some of them stand those left from a later place
  pub left-drop : (n at : ℕ) → at + 4 * n ≤ end → drop n (left b at end) ≡ left b (at + 4 * n) end
  left-drop zero at h =
      let same : at ≡ at + 4 * 0 = omega arith in
      ap (λ (p : ℕ). left b p end) same
  left-drop (suc n) at h =
      let same : at + 4 + 4 * n ≡ at + 4 * suc n = omega arith in
      ap (drop (suc n)) (left-cons at (omega arith))
      ∙ left-drop n (at + 4) (omega arith)
      ∙ ap (λ (p : ℕ). left b p end) same
