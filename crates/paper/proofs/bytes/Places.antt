-- Laws of `places_of`: at a record's place in the blob stand the words of that record.
-- Assumes nothing.
use Prim.Native.Nat.{ℕ, zero, suc, ◌+◌, ◌*◌, ◌<◌, ◌≤◌}
use mathlib.Core.Path.{◌≡◌, refl, sym, ap, ◌∙◌}
use mathlib.Core.List.{List, [], ◌∷◌, ◌++◌, append_assoc}
use mathlib.Core.Option.{none}
use native.Mathlib.Omega.{arith}
use lib.ListN.{length, get_or, take, drop, length-append}
use lib.Seq.{drop_at, drop-drop, split_at}
use Rattle.paper.specs.terms.Fit.{Below, Bytes, word_bound, Fits}
use Rattle.paper.specs.rules.Header.{header_length, order_of, header_report}
use Rattle.paper.specs.rules.Table.{Record, Table, count, nothing, words_of}
use Rattle.paper.specs.rules.Walk.{records, walk, table_of, flat, type_len_of, bytes_of, places_from, places_of}
use Rattle.paper.specs.rules.Word.{first_word, word_at, bytes_of_words}
use Rattle.paper.specs.declared.Order.{Order}
use Rattle.paper.proofs.bytes.Words.{first_word-word_bytes}
use Rattle.paper.proofs.bytes.Bytes.{below_left, below_right, length-bytes_of_words, bytes_of_words-append}
use Rattle.paper.proofs.bytes.Tables.{bytes_of-parts, length-bytes_of}
use Rattle.paper.proofs.bytes.Blobs.{bytes_of-table_of}

-- ── the words around a record ──

-- the words of two runs of records stand one after the other
pub flat_append : (qs rs : List Record) → flat (qs ++ rs) ≡ flat qs ++ flat rs
flat_append [] rs = refl
flat_append (q ∷ qs) rs =
    ap (λ (ws : List ℕ). words_of q ++ ws) (flat_append qs rs) ∙ sym (append_assoc (words_of q) (flat qs) (flat rs))

-- the words of a record stand behind those of the records before it
pub flat-at : (rs : List Record) (t : ℕ) → t < length rs → flat rs ≡ flat (take t rs) ++ (words_of (get_or rs t nothing) ++ flat (drop (suc t) rs))
flat-at rs t h =
    ap flat (split_at rs t nothing h) ∙ flat_append (take t rs) (get_or rs t nothing ∷ drop (suc t) rs)

-- ── where the places are ──

-- a place for each record, from any place on
length-places_from : (p : ℕ) (rs : List Record) → length (places_from p rs) ≡ length rs
length-places_from p [] = refl
length-places_from p (r ∷ rs) = ap suc (length-places_from (p + 4 * length (words_of r)) rs)

-- a place for each record of a table
pub length-places_of : (T : Table) → length (places_of T) ≡ count T
unfolding places_of
length-places_of T = length-places_from header_length T.records

-- a record's place is behind the bytes of the records before it, from any place on
pub places_from-at : (p : ℕ) (rs : List Record) (t : ℕ) → t < length rs → get_or (places_from p rs) t 0 ≡ p + type_len_of (take t rs)
places_from-at p [] t h = absurd (omega arith)
places_from-at p (r ∷ rs) zero h = omega arith
places_from-at p (r ∷ rs) (suc t) h =
    places_from-at (p + 4 * length (words_of r)) rs t (omega arith)
    ∙ omega (arith, length-append r.tail (flat (take t rs)))

module _ (T : Table) (t : ℕ) (h : t < count T) where
  -- a record's place is behind the header and the bytes of the records before it
  pub places_of-at : get_or (places_of T) t 0 ≡ header_length + type_len_of (take t T.records)
  unfolding places_of
  places_of-at = places_from-at header_length T.records t h

  -- no record begins inside the header
  pub place-low : header_length ≤ get_or (places_of T) t 0
  place-low = omega (arith, places_of-at)

  -- every record ends inside the type section
  pub place_inside : get_or (places_of T) t 0 + 4 * length (words_of (get_or T.records t nothing)) ≤ header_length + type_len_of T.records
  place_inside =
      let before : List ℕ = flat (take t T.records) in
      let here : List ℕ = words_of (get_or T.records t nothing) in
      let after : List ℕ = flat (drop (suc t) T.records) in
      omega (arith, places_of-at, ap length (flat-at T.records t h), length-append before (here ++ after), length-append here after)

module _ (order : Order) (T : Table) (t : ℕ) (h : t < count T) where
  -- and inside the blob
  pub place-high : get_or (places_of T) t 0 + 4 * length (words_of (get_or T.records t nothing)) ≤ length (bytes_of order T)
  place-high = omega (arith, place_inside T t h, length-bytes_of order T)

  -- behind the header stand the bytes of the records before, of the record, of the records after it, and the strings
  behind-header : drop header_length (bytes_of order T)
      ≡ bytes_of_words order (flat (take t T.records))
      ++ (bytes_of_words order (words_of (get_or T.records t nothing)) ++ (bytes_of_words order (flat (drop (suc t) T.records)) ++ T.strings))
  behind-header =
      ap (drop header_length) (bytes_of-parts order T)
      ∙ ap (λ (ws : List ℕ). bytes_of_words order ws ++ T.strings) (flat-at T.records t h)
      ∙ simp (bytes_of_words-append, append_assoc)

  -- at a record's place stand its own bytes, then those of the records after it, then the strings
  pub place-record : drop (get_or (places_of T) t 0) (bytes_of order T)
      ≡ bytes_of_words order (words_of (get_or T.records t nothing)) ++ (bytes_of_words order (flat (drop (suc t) T.records)) ++ T.strings)
  place-record =
      let before : List ℕ = flat (take t T.records) in
      ap (λ (p : ℕ). drop p (bytes_of order T)) (places_of-at T t h)
      ∙ sym (drop-drop (4 * length before) header_length (bytes_of order T))
      ∙ ap (drop (4 * length before)) behind-header
      ∙ drop_at (bytes_of_words order before) _ (4 * length before) (length-bytes_of_words order before)

-- ── the words read there ──

-- the words of bytes made from words, one by one
pub first_word-at : (order : Order) (ws s : List ℕ) (j : ℕ) → Below word_bound ws → j < length ws
    → first_word order (drop (4 * j) (bytes_of_words order ws ++ s)) ≡ get_or ws j 0
first_word-at order [] s j fit h = absurd (omega arith)
first_word-at order (w ∷ ws) s zero fit h = first_word-word_bytes order w (bytes_of_words order ws ++ s) fit.0
first_word-at order (w ∷ ws) s (suc j) fit h =
    let four : 4 * suc j ≡ suc (suc (suc (suc (4 * j)))) = omega arith in
    ap (λ (n : ℕ). first_word order (drop n (bytes_of_words order (w ∷ ws) ++ s))) four ∙ first_word-at order ws s j fit.1 (omega arith)

-- the words of each record of a table that some blob can hold fit words
pub record-fits : (T : Table) → Fits T → (t : ℕ) → t < count T → Below word_bound (words_of (get_or T.records t nothing))
record-fits T fits t h =
    let before : List ℕ = flat (take t T.records) in
    let here : List ℕ = words_of (get_or T.records t nothing) in
    let after : List ℕ = flat (drop (suc t) T.records) in
    let all : Below word_bound (before ++ (here ++ after)) = rw (flat-at T.records t h) at fits.words-fit in
    below_left word_bound here after (below_right word_bound before (here ++ after) all)

-- word j of a record is read 4 * j bytes behind the record's place
pub place-word : (order : Order) (T : Table) → Fits T → (t : ℕ) → t < count T → (j : ℕ) → j < length (words_of (get_or T.records t nothing))
    → word_at order (bytes_of order T) (get_or (places_of T) t 0 + 4 * j) ≡ get_or (words_of (get_or T.records t nothing)) j 0
unfolding word_at
place-word order T fits t h j inside =
    let here : List ℕ = words_of (get_or T.records t nothing) in
    ap (first_word order) (sym (drop-drop (4 * j) (get_or (places_of T) t 0) (bytes_of order T)))
    ∙ ap (λ (s : List ℕ). first_word order (drop (4 * j) s)) (place-record order T t h)
    ∙ first_word-at order here _ j (record-fits T fits t h) inside

-- ── the same of a blob that passes phases 1 and 2 ──

module _ (b : List ℕ) (bytes : Bytes b) (silent : header_report b ≡ none) (rs : List Record) (e : walk b ≡ records rs) (t : ℕ) (h : t < count (table_of b)) where
  -- every record of the table that a blob holds ends inside the blob
  pub blob-place-high : get_or (places_of (table_of b)) t 0 + 4 * length (words_of (get_or (table_of b).records t nothing)) ≤ length b
  blob-place-high = omega (arith, place-high (order_of b) (table_of b) t h, ap length (bytes_of-table_of b bytes silent rs e))
