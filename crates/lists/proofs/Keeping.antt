-- Order 10: "Accepted table to list to table gives the same bytes, and so does list to table to list where the table is accepted."
-- Assumes nothing.
use Prim.Native.Nat.{ℕ, ◌+◌, ◌<◌}
use mathlib.Core.Path.{◌≡◌, refl, sym, ap, ap₂, ◌∙◌, subst}
use mathlib.Core.List.{List, [], ◌∷◌, ◌++◌}
use mathlib.Core.Option.{none}
use native.Mathlib.Omega.{arith}
use lib.ListN.{length, take, drop}
use lib.Seq.{drop_at, take_at}
use Rattle.lists.proofs.OneReading.{Reads, read_list-one}
use Rattle.lists.proofs.Written.{read_list-list_of}
use Rattle.lists.specs.Kept.{list_in}
use Rattle.lists.specs.List.{table, body_fields, list_of, read_list}
use Rattle.paper.proofs.bytes.Bytes.{below-append, bytes-bytes_of_words, length-bytes_of_words, words-bytes_of_words}
use Rattle.paper.proofs.bytes.Sections.{walk_from-flat}
use Rattle.paper.proofs.bytes.Tables.{bytes_of-parts, header_of, length-bytes_of, order-bytes_of}
use Rattle.paper.proofs.bytes.Words.{first_word-word_bytes}
use Rattle.paper.proofs.gates.Acceptance.{accepted-bytes, accepted-fits, accepted-meets}
use Rattle.paper.specs.declared.Order.{Order}
use Rattle.paper.specs.declared.Order.TheVariants.{LowFirst, HighFirst}
use Rattle.paper.specs.rules.Gate.{refusal}
use Rattle.paper.specs.rules.Header.{header_length, opening, order_of}
use Rattle.paper.specs.rules.Table.{Table, count}
use Rattle.paper.specs.rules.Walk.{bytes_of, flat, records_in, table_of, type_len_of, walk_from}
use Rattle.paper.specs.rules.Word.{bytes_of_words, word_at, words}
use Rattle.paper.specs.terms.Fit.{Below, Bytes, EveryWhole, word_bound}
use Rattle.paper.specs.terms.Full.{empty_table}

-- E's is `20 01 00 00`, and that of the empty table of the other order `21 01 00 00`
pub list-empty : (list_of LowFirst empty_table ≡ 0x20 ∷ 1 ∷ 0 ∷ 0 ∷ []) × (list_of HighFirst empty_table ≡ 0x21 ∷ 1 ∷ 0 ∷ 0 ∷ [])
unfolding list_of body_fields
list-empty = (refl, refl)

module _ (b : List ℕ) (bytes : Bytes b) (places work : ℕ) (accepted : refusal b places work ≡ none) where
  -- an accepted table's list is read as that table, in its order
  pub list-table : read_list (list_in b) ≡ table (order_of b) (table_of b)
  unfolding list_in
  list-table = let f = accepted-fits b places work accepted bytes in read_list-list_of (order_of b) (table_of b) f.whole f.words-fit

  -- and the bytes of what is read are the blob
  pub list-bytes : {order : Order} {T : Table} → read_list (list_in b) ≡ table order T → bytes_of order T ≡ b
  list-bytes {order} {T} e =
      let same : table (order_of b) (table_of b) ≡ table order T = sym list-table ∙ e in
      let orders : order_of b ≡ order = cc in
      let tables : table_of b ≡ T = cc in
      ap₂ bytes_of (sym orders) (sym tables) ∙ accepted-bytes b places work accepted bytes

-- two lists of one table are the same
pub list-one : (s t : List ℕ) → Bytes s → Bytes t → {order : Order} {T : Table} → read_list s ≡ table order T → read_list t ≡ table order T → s ≡ t
list-one s t x y e f = (read_list-one s x e).is ∙ sym (read_list-one t y f).is

-- ── list to table to list ──

-- the section's length, as its blob says it
length-word : (order : Order) (T : Table) → type_len_of T.records < word_bound → word_at order (bytes_of order T) 12 ≡ type_len_of T.records
unfolding word_at bytes_of
length-word order T small = first_word-word_bytes order (type_len_of T.records) [] small

-- two tables of whole records whose words fit, with the same bytes, are one
module _ (order : Order) (A B : Table) (same : bytes_of order A ≡ bytes_of order B) (wa : EveryWhole A.records) (wb : EveryWhole B.records)
    (fa : Below word_bound (flat A.records)) (fb : Below word_bound (flat B.records)) (sa : type_len_of A.records < word_bound)
    (sb : type_len_of B.records < word_bound) where
  types_of : Table → List ℕ
  types_of T = bytes_of_words order (flat T.records)

  long : type_len_of A.records ≡ type_len_of B.records
  long = sym (length-word order A sa) ∙ ap (λ (s : List ℕ). word_at order s 12) same ∙ length-word order B sb

  sections : types_of A ++ A.strings ≡ types_of B ++ B.strings
  unfolding types_of
  sections = sym (ap (drop 24) (bytes_of-parts order A)) ∙ ap (drop 24) same ∙ ap (drop 24) (bytes_of-parts order B)

  length_types : length (types_of A) ≡ length (types_of B)
  unfolding types_of
  length_types = length-bytes_of_words order (flat A.records) ∙ long ∙ sym (length-bytes_of_words order (flat B.records))

  same-types : types_of A ≡ types_of B
  same-types =
      sym (take_at (types_of A) A.strings (length (types_of B)) length_types)
      ∙ ap (take (length (types_of B))) sections
      ∙ take_at (types_of B) B.strings (length (types_of B)) refl

  same-strings : A.strings ≡ B.strings
  same-strings =
      sym (drop_at (types_of A) A.strings (length (types_of B)) length_types)
      ∙ ap (drop (length (types_of B))) sections
      ∙ drop_at (types_of B) B.strings (length (types_of B)) refl

  same-flat : flat A.records ≡ flat B.records
  unfolding types_of
  same-flat = sym (words-bytes_of_words order (flat A.records) fa) ∙ ap (words order) same-types ∙ words-bytes_of_words order (flat B.records) fb

  same-records : A.records ≡ B.records
  same-records =
      let room : ℕ = count A + count B in
      ap records_in
      (sym (walk_from-flat room 1 0 A.records wa (omega arith))
      ∙ ap (walk_from room 1 0) same-flat
      ∙ walk_from-flat room 1 0 B.records wb (omega arith))

  bytes_of-one : A ≡ B
  bytes_of-one = λ i. record { records = same-records i; strings = same-strings i }

bytes-made : (order : Order) (T : Table) → Bytes T.strings → Bytes (bytes_of order T)
bytes-made order T strings =
    let n : ℕ = type_len_of T.records in
    let numbers : List ℕ = header_length ∷ 0 ∷ n ∷ n ∷ length T.strings ∷ [] in
    let types : List ℕ = bytes_of_words order (flat T.records) in
    subst Bytes (sym (bytes_of-parts order T))
    (below-append 256 (header_of order n (length T.strings)) (types ++ T.strings)
    (below-append 256 (opening order) (bytes_of_words order numbers) (opens order) (bytes-bytes_of_words order numbers))
    (below-append 256 types T.strings (bytes-bytes_of_words order (flat T.records)) strings))
  where
    opens : (o : Order) → Bytes (opening o)
    opens LowFirst = omega arith
    opens HighFirst = omega arith

module _ (s : List ℕ) (bytes : Bytes s) {order : Order} {T : Table} (e : read_list s ≡ table order T) (places work : ℕ)
    (accepted : refusal (bytes_of order T) places work ≡ none) where
  reads : Reads s order T
  reads = read_list-one s bytes e

  made_bytes : Bytes (bytes_of order T)
  made_bytes = bytes-made order T reads.strings

  -- the made blob holds the table that was read
  pub made_table : table_of (bytes_of order T) ≡ T
  made_table =
      let b : List ℕ = bytes_of order T in
      let f = accepted-fits b places work accepted made_bytes in
      let l = length-bytes_of order T in
      let h = (accepted-meets b places work accepted).readable.header.short in
      bytes_of-one order (table_of b) T
      (ap (λ (o : Order). bytes_of o (table_of b)) (sym (order-bytes_of order T)) ∙ accepted-bytes b places work accepted made_bytes)
      f.whole reads.whole f.words-fit reads.fits f.section_fits (omega arith)

  -- and its list is the list that was read
  pub table-list : list_in (bytes_of order T) ≡ s
  unfolding list_in
  table-list = ap₂ list_of (order-bytes_of order T) made_table ∙ sym reads.is
