-- Laws of `Word` and `Fit`, in any byte order: runs of words and runs of bytes undo each other, and what of a bounded list is bounded.
-- Assumes nothing.
use Prim.Native.Nat.{ℕ, zero, suc, ◌-◌, ◌*◌, ◌/◌, ◌%◌}
use mathlib.Core.Path.{◌≡◌, refl, sym, ap, ◌∙◌}
use mathlib.Core.List.{List, [], ◌∷◌, ◌++◌, append-nil}
use native.Mathlib.Omega.{arith}
use lib.ListN.{length, get_or, take, drop, length-drop}
use lib.Seq.{take_all, drop-length}
use mir.Syntax.{w8}
use mir.Val.{Fits}
use Rattle.paper.specs.terms.Fit.{Below, Bytes, word_bound}
use Rattle.paper.specs.rules.Word.{word_of, word_bytes, words, bytes_of_words}
use Rattle.paper.specs.declared.Order.{Order}
use Rattle.paper.proofs.bytes.Words.{first_word-word_bytes, word_bytes-word_of, word_of-bound}

-- ── bounded lists ──

-- two bounded lists, one after the other, are bounded
pub below-append : (n : ℕ) (s t : List ℕ) → Below n s → Below n t → Below n (s ++ t)
below-append n [] t hs ht = ht
below-append n (x ∷ s) t hs ht = (hs.0, below-append n s t hs.1 ht)

-- each of two lists that are bounded one after the other is bounded
pub below_left : (n : ℕ) (s t : List ℕ) → Below n (s ++ t) → Below n s
below_left n [] t h = tt
below_left n (x ∷ s) t h = (h.0, below_left n s t h.1)

pub below_right : (n : ℕ) (s t : List ℕ) → Below n (s ++ t) → Below n t
below_right n [] t h = h
below_right n (x ∷ s) t h = below_right n s t h.1

-- the front of a bounded list is bounded
pub below-take : (n k : ℕ) (s : List ℕ) → Below n s → Below n (take k s)
below-take n zero s h = tt
below-take n (suc k) [] h = tt
below-take n (suc k) (x ∷ s) h = (h.0, below-take n k s h.1)

-- and so is what is left
pub below-drop : (n k : ℕ) (s : List ℕ) → Below n s → Below n (drop k s)
below-drop n zero s h = h
below-drop n (suc k) [] h = tt
below-drop n (suc k) (x ∷ s) h = below-drop n k s h.1

-- the rest of a list, as a part of a slice has it
pub part-rest : (b : List ℕ) (p : ℕ) → take (length b - p) (drop p b) ≡ drop p b
part-rest b p = take_all (length b - p) (drop p b) (simp length-drop (omega arith))

-- and what a slice is where other bytes have come back for that part
pub part-back : (b : List ℕ) (p : ℕ) (s : List ℕ) → take p b ++ (s ++ drop (length b - p) (drop p b)) ≡ take p b ++ s
part-back b p s =
    ap (λ (n : ℕ). take p b ++ (s ++ drop n (drop p b))) (sym (length-drop p b))
    ∙ ap (λ (t : List ℕ). take p b ++ (s ++ t)) (drop-length (drop p b))
    ∙ ap (λ (t : List ℕ). take p b ++ t) (append-nil s)

-- a u8 slice holds bytes: what code knows of every element of one
pub slice-bytes : (b : List ℕ) → ((i : ℕ) → Fits w8 (get_or b i 0)) → Bytes b
slice-bytes [] h = tt
slice-bytes (x ∷ b) h = ((h 0).fits, slice-bytes b (λ i. h (suc i)))

module _ (order : Order) where
  -- ── from words to bytes ──

  -- four bytes to a word
  pub length-bytes_of_words : (ws : List ℕ) → length (bytes_of_words order ws) ≡ 4 * length ws
  length-bytes_of_words [] = refl
  length-bytes_of_words (w ∷ ws) = omega (arith, length-bytes_of_words ws)

  -- the bytes of two runs of words stand one after the other
  pub bytes_of_words-append : (vs ws : List ℕ) → bytes_of_words order (vs ++ ws) ≡ bytes_of_words order vs ++ bytes_of_words order ws
  bytes_of_words-append [] ws = refl
  bytes_of_words-append (v ∷ vs) ws = ap (λ (s : List ℕ). word_bytes order v ++ s) (bytes_of_words-append vs ws)

  -- what is made from words is bytes
  pub bytes-bytes_of_words : (ws : List ℕ) → Bytes (bytes_of_words order ws)
  bytes-bytes_of_words [] = tt
  bytes-bytes_of_words (w ∷ ws) = (omega arith, (omega arith, (omega arith, (omega arith, bytes-bytes_of_words ws))))

  -- the words of bytes made from words, and of what follows them
  pub words_append : (ws s : List ℕ) → Below word_bound ws → words order (bytes_of_words order ws ++ s) ≡ ws ++ words order s
  words_append [] s h = refl
  words_append (w ∷ ws) s h = rw (first_word-word_bytes order w [] h.0, words_append ws s h.1) refl

  -- words come back from their bytes
  pub words-bytes_of_words : (ws : List ℕ) → Below word_bound ws → words order (bytes_of_words order ws) ≡ ws
  words-bytes_of_words [] h = refl
  words-bytes_of_words (w ∷ ws) h = rw (first_word-word_bytes order w [] h.0, words-bytes_of_words ws h.1) refl

  -- ── from bytes to words ──

  -- the words of bytes fit 32 bits
  pub words-fit : (s : List ℕ) → Bytes s → Below word_bound (words order s)
  words-fit [] h = tt
  words-fit (a ∷ []) h = tt
  words-fit (a ∷ b ∷ []) h = tt
  words-fit (a ∷ b ∷ c ∷ []) h = tt
  words-fit (a ∷ b ∷ c ∷ d ∷ s) h =
      (word_of-bound order h.0 h.1.0 h.1.1.0 h.1.1.1.0, words-fit s h.1.1.1.1)

  -- as many words as four bytes go into the run
  pub length-words : (s : List ℕ) → length (words order s) ≡ length s / 4
  length-words [] = refl
  length-words (a ∷ []) = refl
  length-words (a ∷ b ∷ []) = refl
  length-words (a ∷ b ∷ c ∷ []) = refl
  length-words (a ∷ b ∷ c ∷ d ∷ s) = omega (arith, length-words s)

  -- bytes come back from their words, where none is left over
  pub bytes_of_words-words : (s : List ℕ) → Bytes s → length s % 4 ≡ 0 → bytes_of_words order (words order s) ≡ s
  bytes_of_words-words [] h e = refl
  bytes_of_words-words (a ∷ []) h e = absurd (omega arith)
  bytes_of_words-words (a ∷ b ∷ []) h e = absurd (omega arith)
  bytes_of_words-words (a ∷ b ∷ c ∷ []) h e = absurd (omega arith)
  bytes_of_words-words (a ∷ b ∷ c ∷ d ∷ s) h e =
      let word : word_bytes order (word_of order a b c d) ≡ a ∷ b ∷ c ∷ d ∷ [] = word_bytes-word_of order h.0 h.1.0 h.1.1.0 h.1.1.1.0 in
      ap (λ (t : List ℕ). t ++ bytes_of_words order (words order s)) word
      ∙ ap (λ (t : List ℕ). a ∷ b ∷ c ∷ d ∷ t) (bytes_of_words-words s h.1.1.1.1 (omega arith))
