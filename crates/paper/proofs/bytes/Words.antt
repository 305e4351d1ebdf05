-- Laws of `Word`, in any byte order: words and their bytes undo each other, and a word is read where it was put.
-- Only the first three look at which order it is.
-- Assumes nothing.
use Prim.Native.Nat.{ℕ, suc, ◌+◌, ◌*◌, ◌/◌, ◌%◌, ◌<◌, ◌≤◌}
use mathlib.Core.Path.{◌≡◌, refl, sym, ap, ◌∙◌}
use mathlib.Core.List.{List, [], ◌∷◌, ◌++◌, append_assoc}
use native.Mathlib.Numerals.{add-one, add-two, add-three, add-four}
use native.Mathlib.Nat.{div-div-eq-div-mul, div-one}
use native.Mathlib.Omega.{arith}
use borrow.Author.Tests.{le-leb, lt-leb}
use lib.ListN.{length, get_or, take, drop, set, length-drop}
use lib.Seq.{drop-cons, drop_at, length-take-le, sets, sets-eq}
use Rattle.paper.specs.rules.Word.{word_of, word_bytes, first_word, word_at, put_word}
use Rattle.paper.specs.declared.Order.{Order}
use Rattle.paper.specs.declared.Order.TheVariants.{LowFirst, HighFirst}

-- ── words and bytes ──

pub first_word-word_bytes : (order : Order) (w : ℕ) (s : List ℕ) → w < 4294967296 → first_word order (word_bytes order w ++ s) ≡ w
first_word-word_bytes LowFirst w s h =
    let top : w / 16777216 % 256 ≡ w / 16777216 = omega arith in
    omega (arith, div-div-eq-div-mul w 256 256, div-div-eq-div-mul w 65536 256)
first_word-word_bytes HighFirst w s h =
    let top : w / 16777216 % 256 ≡ w / 16777216 = omega arith in
    omega (arith, div-div-eq-div-mul w 256 256, div-div-eq-div-mul w 65536 256)

low_digit : (x q : ℕ) {w : ℕ} → x < 256 → w ≡ x + q * 256 → w % 256 ≡ x
low_digit x q h e = omega arith

pub word_bytes-word_of : (order : Order) {a b c d : ℕ} → a < 256 → b < 256 → c < 256 → d < 256 → word_bytes order (word_of order a b c d) ≡ a ∷ b ∷ c ∷ d ∷ []
word_bytes-word_of LowFirst {a} {b} {c} {d} ha hb hc hd =
    let w : ℕ = word_of LowFirst a b c d in
    let e₀ : w / 1 % 256 ≡ a = low_digit a (b + (c + d * 256) * 256) ha (omega arith) in
    let e₁ : w / 256 % 256 ≡ b = low_digit b (c + d * 256) hb (omega arith) in
    let e₂ : w / 65536 % 256 ≡ c = low_digit c d hc (omega arith) in
    let e₃ : w / 16777216 % 256 ≡ d = low_digit d 0 hd (omega arith) in
    cc
word_bytes-word_of HighFirst {a} {b} {c} {d} ha hb hc hd =
    let w : ℕ = word_of HighFirst a b c d in
    let e₀ : w / 1 % 256 ≡ d = low_digit d (c + (b + a * 256) * 256) hd (omega arith) in
    let e₁ : w / 256 % 256 ≡ c = low_digit c (b + a * 256) hc (omega arith) in
    let e₂ : w / 65536 % 256 ≡ b = low_digit b a hb (omega arith) in
    let e₃ : w / 16777216 % 256 ≡ a = low_digit a 0 ha (omega arith) in
    cc

pub word_of-bound : (order : Order) {a b c d : ℕ} → a < 256 → b < 256 → c < 256 → d < 256 → word_of order a b c d < 4294967296
word_of-bound LowFirst ha hb hc hd = omega arith
word_of-bound HighFirst ha hb hc hd = omega arith

-- ── a word at a place ──

pub drop-four : (b : List ℕ) (p : ℕ) → p + 4 ≤ length b
    → drop p b ≡ get_or b p 0 ∷ get_or b (p + 1) 0 ∷ get_or b (p + 2) 0 ∷ get_or b (p + 3) 0 ∷ drop (p + 4) b
drop-four b p h =
    rw (add-one, add-two, add-three, add-four)
    (drop-cons b p 0 (omega arith)
    ∙ ap {B = List ℕ} (λ s. get_or b p 0 ∷ s) (drop-cons b (suc p) 0 (omega arith)
    ∙ ap {B = List ℕ} (λ s. get_or b (suc p) 0 ∷ s) (drop-cons b (suc (suc p)) 0 (omega arith)
    ∙ ap {B = List ℕ} (λ s. get_or b (suc (suc p)) 0 ∷ s) (drop-cons b (suc (suc (suc p))) 0 (omega arith)))))

module _ (order : Order) where
  pub word_at-inside : (b : List ℕ) (p : ℕ) → p + 4 ≤ length b
      → word_at order b p ≡ word_of order (get_or b p 0) (get_or b (p + 1) 0) (get_or b (p + 2) 0) (get_or b (p + 3) 0)
  unfolding word_at
  word_at-inside b p h = ap (first_word order) (drop-four b p h)

  first_word-short : (s : List ℕ) → length s < 4 → first_word order s ≡ 0
  first_word-short [] h = refl
  first_word-short (a ∷ []) h = refl
  first_word-short (a ∷ b ∷ []) h = refl
  first_word-short (a ∷ b ∷ c ∷ []) h = refl
  first_word-short (a ∷ b ∷ c ∷ d ∷ s) h = absurd (omega arith)

  pub word_at-outside : (b : List ℕ) (p : ℕ) → length b < p + 4 → word_at order b p ≡ 0
  unfolding word_at
  word_at-outside b p h = first_word-short (drop p b) (simp length-drop (omega arith))

  -- ── a word that is put at a place ──

  pub put_word-inside : (b : List ℕ) (p w : ℕ) → p + 4 ≤ length b → put_word order b p w ≡ take p b ++ (word_bytes order w ++ drop (p + 4) b)
  unfolding put_word
  put_word-inside b p w h = simp (le-leb _ _ h)

  pub put_word-outside : (b : List ℕ) (p w : ℕ) → length b < p + 4 → put_word order b p w ≡ b
  unfolding put_word
  put_word-outside b p w h = simp (lt-leb _ _ h)

  -- four bytes stored one after the other
  pub put_word-stores : (b : List ℕ) (p w : ℕ) → p + 4 ≤ length b → sets b p (word_bytes order w) ≡ put_word order b p w
  put_word-stores b p w h =
      sets-eq (word_bytes order w) b p h
      ∙ append_assoc (take p b) (word_bytes order w) (drop (p + 4) b)
      ∙ sym (put_word-inside b p w h)

  -- read after write
  pub word_at-put_word : (b : List ℕ) (p w : ℕ) → p + 4 ≤ length b → w < 4294967296 → word_at order (put_word order b p w) p ≡ w
  unfolding word_at
  word_at-put_word b p w h fits =
      ap (first_word order)
      (ap (drop p) (put_word-inside b p w h) ∙ drop_at (take p b) (word_bytes order w ++ drop (p + 4) b) p (length-take-le p b (omega arith)))
      ∙ first_word-word_bytes order w (drop (p + 4) b) fits

-- the four stores of code that writes low byte first
pub put_word-low : (b : List ℕ) (p w : ℕ) → p + 4 ≤ length b
    → set (set (set (set b p (w % 256)) (p + 1) (w / 256 % 256)) (p + 2) (w / 65536 % 256)) (p + 3) (w / 16777216 % 256) ≡ put_word LowFirst b p w
put_word-low b p w h =
    rw (add-one, add-two, add-three)
    (ap (λ (x : ℕ). sets b p (x % 256 ∷ w / 256 % 256 ∷ w / 65536 % 256 ∷ w / 16777216 % 256 ∷ [])) (sym (div-one w))
    ∙ put_word-stores LowFirst b p w h)
