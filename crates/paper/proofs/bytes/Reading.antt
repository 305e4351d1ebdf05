-- Laws of `record_in`: at a record's place in the blob the bytes begin with that record, and a test of a record's words, one by one.
-- Assumes nothing.
use Prim.Native.Nat.{ℕ, zero, suc, ◌+◌, ◌*◌, ◌<◌}
use mathlib.Core.Path.{◌≡◌, refl, sym, ap, ap₂, ◌∙◌}
use mathlib.Core.Bool.{Bool, true, false, ◌&&◌}
use mathlib.Core.List.{List, [], ◌∷◌, ◌++◌}
use mathlib.Core.Option.{none}
use native.Mathlib.Omega.{arith}
use lib.ListN.{length, get_or, drop, length-append}
use lib.Seq.{drop-drop}
use Rattle.paper.specs.rules.Choice.{times}
use Rattle.paper.specs.terms.Fit.{Below, Bytes, Whole, word_bound}
use Rattle.paper.specs.rules.Header.{order_of, header_report}
use Rattle.paper.specs.rules.Kind.{Role, names, number, row_of}
use Rattle.paper.specs.terms.Reading.{words_from, record_in, roled, tail_roled}
use Rattle.paper.specs.rules.Table.{Record, Table, count, nothing, kind_in, vlen_in, tail_length, tail_roles, words_of, every_roled, every_word}
use Rattle.paper.specs.rules.Walk.{records, walk, table_of, places_of}
use Rattle.paper.specs.rules.Word.{first_word, word_at, bytes_of_words}
use Rattle.paper.specs.declared.Order.{Order}
use Rattle.paper.proofs.bytes.Blobs.{bytes_of-table_of, table_of-fits}
use Rattle.paper.proofs.bytes.Places.{first_word-at, place-record, record-fits}
use Rattle.paper.proofs.bytes.Sections.{whole-at}

-- ── words and tests of them, in a byte order ──

-- a role for each word of a tail
pub length-times : (v : ℕ) (ρs : List Role) → length (times v ρs) ≡ v * length ρs
length-times zero ρs = omega arith
length-times (suc v) ρs = length-append ρs (times v ρs) ∙ ap (λ (n : ℕ). length ρs + n) (length-times v ρs) ∙ omega arith

module _ (order : Order) where
  -- a word so far into what is left of some bytes
  pub word_at-drop : (b : List ℕ) (p k : ℕ) → word_at order (drop p b) k ≡ word_at order b (p + k)
  unfolding word_at
  word_at-drop b p k = rw drop-drop refl

  word_at-first : (b : List ℕ) (k : ℕ) → word_at order b k ≡ first_word order (drop k b)
  unfolding word_at
  word_at-first b k = refl

  -- so many words from a place on
  pub length-words_from : (s : List ℕ) (p n : ℕ) → length (words_from order s p n) ≡ n
  length-words_from s p zero = refl
  length-words_from s p (suc n) = ap suc (length-words_from s (p + 4) n)

  -- the words of the record that some bytes begin with
  pub length-record_in : (s : List ℕ) → length (words_of (record_in order s)) ≡ 3 + tail_length (word_at order s 4)
  unfolding record_in
  length-record_in s = let l = length-words_from s 12 (tail_length (word_at order s 4)) in omega arith

  -- the words from a place on are those of a list that stand there one after the other
  words_from-are : (s : List ℕ) (p : ℕ) (ws : List ℕ) → ((j : ℕ) → j < length ws → word_at order s (p + 4 * j) ≡ get_or ws j 0)
      → words_from order s p (length ws) ≡ ws
  words_from-are s p [] h = refl
  words_from-are s p (w ∷ ws) h =
      let first : word_at order s p ≡ w = let here : p + 4 * 0 ≡ p = omega arith in sym (ap (word_at order s) here) ∙ h 0 (omega arith) in
      ap₂ {C = List ℕ} ◌∷◌ first (words_from-are s (p + 4) ws next)
    where
      next : (j : ℕ) → j < length ws → word_at order s (p + 4 + 4 * j) ≡ get_or ws j 0
      next j l = let there : p + 4 + 4 * j ≡ p + 4 * suc j = omega arith in ap (word_at order s) there ∙ h (suc j) (omega arith)

  -- one run of roles behind the other
  pub roled-append : (f : Role → ℕ → Bool) (s : List ℕ) (p : ℕ) (ρs σs : List Role)
      → roled order f s p (ρs ++ σs) ≡ roled order f s p ρs && roled order f s (p + 4 * length ρs) σs
  unfolding roled
  roled-append f s p [] σs = let here : p + 4 * 0 ≡ p = omega arith in ap (λ (q : ℕ). roled order f s q σs) (sym here)
  roled-append f s p (ρ ∷ ρs) σs =
      let there : p + 4 + 4 * length ρs ≡ p + 4 * suc (length ρs) = omega arith in
      ap (λ (t : Bool). f ρ (word_at order s p) && t)
      (roled-append f s (p + 4) ρs σs ∙ ap (λ (q : ℕ). roled order f s (p + 4) ρs && roled order f s q σs) there)
      ∙ and_assoc (f ρ (word_at order s p)) _ _
    where
      and_assoc : (a b c : Bool) → (a && (b && c)) ≡ ((a && b) && c)
      and_assoc true b c = refl
      and_assoc false b c = refl

  -- a test of every word of a record: the three of the head, then the tail
  pub every_word-record_in : (f : Role → ℕ → Bool) (s : List ℕ) → let info = word_at order s 4 in let row = row_of (kind_in info) in
      roled order f s 0 (names row.name ∷ number ∷ row.third_role ∷ []) && tail_roled order f s info ≡ every_word f (record_in order s)
  unfolding record_in roled tail_length tail_roles
  every_word-record_in f s =
      let row = row_of (kind_in (word_at order s 4)) in
      let v = vlen_in (word_at order s 4) in
      let few : length (row.once ++ times v row.each) ≡ length row.once + v * length row.each =
      length-append row.once (times v row.each) ∙ ap (λ (n : ℕ). length row.once + n) (length-times v row.each) in
      regroup (f (names row.name) (word_at order s 0)) (f number (word_at order s 4)) (f row.third_role (word_at order s 8))
      (tail_roled order f s (word_at order s 4))
      ∙ ap
      (λ (t : Bool). f (names row.name) (word_at order s 0) && (f number (word_at order s 4) && (f row.third_role (word_at order s 8) && t)))
      (sym (roled-append f s 12 row.once (times v row.each))
      ∙ ap (λ (n : ℕ). every_roled f (row.once ++ times v row.each) (words_from order s 12 n)) few)
    where
      regroup : (a b c d : Bool) → (a && (b && (c && true))) && d ≡ a && (b && (c && d))
      regroup true true true d = refl
      regroup true true false d = refl
      regroup true false c d = refl
      regroup false b c d = refl

-- ── the record at a place ──

-- bytes that begin with those of a whole record begin with that record
pub record_in-whole : (order : Order) (r : Record) (s : List ℕ) → Whole r → Below word_bound (words_of r)
    → record_in order (bytes_of_words order (words_of r) ++ s) ≡ r
unfolding record_in
record_in-whole order r s whole fit =
    let b : List ℕ = bytes_of_words order (words_of r) ++ s in
    let info = word 1 (omega arith) in
    let tail =
    ap (λ (w : ℕ). words_from order b 12 (tail_length w)) info
    ∙ ap (words_from order b 12) (sym whole.whole_tail)
    ∙ words_from-are order b 12 r.tail later in
    λ i. record { name_off = word 0 (omega arith) i; info = info i; third = word 2 (omega arith) i; tail = tail i }
  where
    word : (j : ℕ) → j < suc (suc (suc (length r.tail))) → word_at order (bytes_of_words order (words_of r) ++ s) (4 * j) ≡ get_or (words_of r) j 0
    word j l = word_at-first order (bytes_of_words order (words_of r) ++ s) (4 * j) ∙ first_word-at order (words_of r) s j fit l

    later : (j : ℕ) → j < length r.tail → word_at order (bytes_of_words order (words_of r) ++ s) (12 + 4 * j) ≡ get_or r.tail j 0
    later j l =
        let there : 12 + 4 * j ≡ 4 * suc (suc (suc j)) = omega arith in
        ap (word_at order (bytes_of_words order (words_of r) ++ s)) there ∙ word (suc (suc (suc j))) (omega arith)

module _ (b : List ℕ) (bytes : Bytes b) (silent : header_report b ≡ none) (rs : List Record) (e : walk b ≡ records rs) (t : ℕ) (h : t < count (table_of b)) where
  -- the bytes from a record's place on begin with that record, as types are numbered from 0
  pub record_in-place : record_in (order_of b) (drop (get_or (places_of (table_of b)) t 0) b) ≡ get_or (table_of b).records t nothing
  record_in-place =
      let T : Table = table_of b in
      let fits = table_of-fits b bytes silent rs e in
      ap (λ (s : List ℕ). record_in (order_of b) (drop (get_or (places_of T) t 0) s)) (sym (bytes_of-table_of b bytes silent rs e))
      ∙ ap (record_in (order_of b)) (place-record (order_of b) T t h)
      ∙ record_in-whole (order_of b) (get_or T.records t nothing) _ (whole-at T.records fits.whole t h) (record-fits T fits t h)
