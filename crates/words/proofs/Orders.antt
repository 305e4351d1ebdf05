-- Laws of the two byte orders for code that loads and stores low byte first and turns a word round; and of a blob's order by its bytes.
-- Assumes nothing.
use Prim.Native.Nat.{ℕ, ◌+◌, ◌*◌, ◌/◌, ◌%◌, ◌<◌, ◌≤◌}
use mathlib.Core.Path.{◌≡◌, refl, sym, ap, ap₂, ◌∙◌}
use mathlib.Core.Bool.{Bool, true, false, cond, ◌&&◌}
use mathlib.Core.List.{List, [], ◌∷◌, ◌++◌}
use native.Mathlib.Omega.{arith}
use borrow.Author.Tests.{eq-eqb, ne_eqb}
use lib.Dec.{eqb, leb}
use lib.ListN.{length, get_or, take, drop}
use Rattle.paper.specs.declared.Order.{Order}
use Rattle.paper.specs.declared.Order.TheVariants.{LowFirst, HighFirst}
use Rattle.paper.specs.rules.Header.{order_of}
use Rattle.paper.specs.rules.Word.{word_of, word_bytes, first_word, put_word}
use Rattle.paper.proofs.bytes.Words.{first_word-word_bytes, word_bytes-word_of}

-- ── the order of a blob ──

pub order_of-short : (b : List ℕ) → length b < 2 → order_of b ≡ LowFirst
unfolding order_of
order_of-short [] h = refl
order_of-short (x ∷ []) h = low (eqb x 0xeb)
  where
    low : (t : Bool) → cond (t && false) HighFirst LowFirst ≡ LowFirst
    low true = refl
    low false = refl
order_of-short (x ∷ y ∷ s) h = absurd (omega arith)

module _ (b : List ℕ) (long : 2 ≤ length b) where
  by_bytes : order_of b ≡ cond (eqb (get_or b 0 0) 0xeb && (eqb (get_or b 1 0) 0x9f && true)) HighFirst LowFirst
  unfolding order_of
  by_bytes = go b long
    where
      go : (s : List ℕ) → 2 ≤ length s → order_of s ≡ cond (eqb (get_or s 0 0) 0xeb && (eqb (get_or s 1 0) 0x9f && true)) HighFirst LowFirst
      go [] h = absurd (omega arith)
      go (x ∷ []) h = absurd (omega arith)
      go (x ∷ y ∷ s) h = refl

  pub order_of-first : (get_or b 0 0 ≡ 0xeb → ⊥) → order_of b ≡ LowFirst
  order_of-first h = by_bytes ∙ simp (ne_eqb _ _ h)

  pub order_of-second : get_or b 0 0 ≡ 0xeb → (get_or b 1 0 ≡ 0x9f → ⊥) → order_of b ≡ LowFirst
  order_of-second e h = by_bytes ∙ simp (eq-eqb _ _ e, ne_eqb _ _ h)

  pub order_of-high : get_or b 0 0 ≡ 0xeb → get_or b 1 0 ≡ 0x9f → order_of b ≡ HighFirst
  order_of-high e f = by_bytes ∙ simp (eq-eqb _ _ e, eq-eqb _ _ f)

-- ── a word turned round ──

first_byte : (w : ℕ) → w % 256 ≡ w / 1 % 256
first_byte w = omega arith

last_byte : (w : ℕ) → w < 4294967296 → w / 16777216 ≡ w / 16777216 % 256 * 1
last_byte w h = omega arith

pub turned-word : (w : ℕ) → w < 4294967296 → {r : ℕ}
    → r ≡ w % 256 * 16777216 + w / 256 % 256 * 65536 + w / 65536 % 256 * 256 + w / 16777216 → r ≡ first_word HighFirst (word_bytes LowFirst w)
turned-word w h e = e ∙ ap₂ (λ (x y : ℕ). x * 16777216 + w / 256 % 256 * 65536 + w / 65536 % 256 * 256 + y) (first_byte w) (last_byte w h)

-- four bytes taken from the other end, low byte first, are their word high byte first
pub other-end : (a b c d : ℕ) → word_of LowFirst d c b a ≡ word_of HighFirst a b c d
other-end a b c d = omega arith

-- the bytes of a word turned round, low byte first, are the word's in that order
pub ordered-write : (order : Order) (w : ℕ) → w < 4294967296 → word_bytes LowFirst (first_word order (word_bytes LowFirst w)) ≡ word_bytes order w
ordered-write LowFirst w h = ap (word_bytes LowFirst) (first_word-word_bytes LowFirst w [] h)
ordered-write HighFirst w h =
    let a = w / 1 % 256 in
    let b = w / 256 % 256 in
    let c = w / 65536 % 256 in
    let d = w / 16777216 % 256 in
    ap (word_bytes LowFirst) (sym (other-end a b c d)) ∙ word_bytes-word_of LowFirst {a = d} {b = c} {c = b} {d = a} (omega arith) (omega arith) (omega arith) (omega arith)

-- so what is put is the same
pub put_word-bytes : (b : List ℕ) (p : ℕ) (o q : Order) (v w : ℕ) → word_bytes o v ≡ word_bytes q w → put_word o b p v ≡ put_word q b p w
unfolding put_word
put_word-bytes b p o q v w e = ap (λ (s : List ℕ). cond (leb (p + 4) (length b)) (take p b ++ (s ++ drop (p + 4) b)) b) e
