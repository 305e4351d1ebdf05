-- Laws of `Walk`, in any byte order: the blob that holds a table holds that table, with the header that phase 1 asks for.
-- Assumes nothing.
use Prim.Native.Nat.{ℕ, ◌+◌, ◌≤◌}
use mathlib.Core.Path.{◌≡◌, refl, sym, ap, ◌∙◌}
use mathlib.Core.List.{List, [], ◌∷◌, ◌++◌}
use mathlib.Core.Option.{none}
use native.Mathlib.Omega.{arith}
use lib.ListN.{length, get_or, take, drop, length-append}
use lib.Seq.{take_at, drop_at}
use Rattle.paper.specs.terms.Fit.{Bytes, Fits}
use Rattle.paper.specs.terms.Good.{HeaderFacts, Closed}
use Rattle.paper.specs.rules.Header.{header_length, opening, order_of, type_off, type_len, str_off, str_len, strings_in, header_report}
use Rattle.paper.specs.rules.Limits.{byte_limit, type_limit}
use Rattle.paper.specs.rules.Table.{Table}
use Rattle.paper.specs.rules.Walk.{records, records_in, walk_from, type_words, walk, table_of, flat, type_len_of, blob_length, bytes_of}
use Rattle.paper.specs.rules.Word.{words, bytes_of_words, word_at}
use Rattle.paper.specs.declared.Order.{Order}
use Rattle.paper.specs.declared.Order.TheVariants.{LowFirst, HighFirst}
use Rattle.paper.proofs.bytes.Words.{first_word-word_bytes}
use Rattle.paper.proofs.bytes.Bytes.{below-append, length-bytes_of_words, bytes-bytes_of_words, words-bytes_of_words}
use Rattle.paper.proofs.bytes.Headers.{facts-header_report}
use Rattle.paper.proofs.bytes.Sections.{walk_from-flat}

-- the header of a blob with sections of so many bytes
abbrev pub header_of : Order → ℕ → ℕ → List ℕ
header_of order types strings = opening order ++ bytes_of_words order (header_length ∷ 0 ∷ types ∷ types ∷ strings ∷ [])

-- a header is bytes, whatever its numbers
bytes-header_of : (order : Order) (types strings : ℕ) → Bytes (header_of order types strings)
bytes-header_of LowFirst types strings = omega arith
bytes-header_of HighFirst types strings = omega arith

-- its opening says which order it is
order_of-opening : (order : Order) (s : List ℕ) → order_of (opening order ++ s) ≡ order
unfolding order_of
order_of-opening LowFirst s = refl
order_of-opening HighFirst s = refl

module _ (order : Order) (T : Table) where
  -- ── the parts of the blob ──

  -- the header, then the records, then the strings
  pub bytes_of-parts : bytes_of order T ≡ header_of order (type_len_of T.records) (length T.strings) ++ (bytes_of_words order (flat T.records) ++ T.strings)
  unfolding bytes_of
  bytes_of-parts = refl

  -- the blob is as long as its three parts
  pub length-bytes_of : length (bytes_of order T) ≡ blob_length T
  length-bytes_of =
      rw bytes_of-parts (omega (arith, length-append (bytes_of_words order (flat T.records)) T.strings, length-bytes_of_words order (flat T.records)))

  -- the blob's words are in its order
  pub order-bytes_of : order_of (bytes_of order T) ≡ order
  unfolding bytes_of
  order-bytes_of = order_of-opening order _

  module _ (h : Fits T) where
    -- the blob of a table that fits is bytes
    pub bytes-bytes_of : Bytes (bytes_of order T)
    bytes-bytes_of =
        let types : List ℕ = bytes_of_words order (flat T.records) in
        rw bytes_of-parts
        (below-append 256 (header_of order (type_len_of T.records) (length T.strings)) (types ++ T.strings) (bytes-header_of order _ _)
        (below-append 256 types T.strings (bytes-bytes_of_words order (flat T.records)) h.bytes_fit))

    -- the header gives the length of the type section
    pub type_len-bytes_of : type_len (bytes_of order T) ≡ type_len_of T.records
    unfolding type_len word_at bytes_of
    type_len-bytes_of =
        ap (λ (o : Order). word_at o (bytes_of order T) 12) order-bytes_of ∙ first_word-word_bytes order (type_len_of T.records) [] h.section_fits

    str_off-bytes_of : str_off (bytes_of order T) ≡ type_len_of T.records
    unfolding str_off word_at bytes_of
    str_off-bytes_of =
        ap (λ (o : Order). word_at o (bytes_of order T) 16) order-bytes_of ∙ first_word-word_bytes order (type_len_of T.records) [] h.section_fits

    -- the header gives the length of the strings
    pub str_len-bytes_of : str_len (bytes_of order T) ≡ length T.strings
    unfolding str_len word_at bytes_of
    str_len-bytes_of =
        ap (λ (o : Order). word_at o (bytes_of order T) 20) order-bytes_of ∙ first_word-word_bytes order (length T.strings) [] h.strings-fit

    -- the strings of the blob are those of the table
    pub strings_in-bytes_of : strings_in (bytes_of order T) ≡ T.strings
    unfolding strings_in bytes_of
    strings_in-bytes_of =
        let n : ℕ = type_len_of T.records in
        ap (λ (l : ℕ). drop (header_length + l) (bytes_of order T)) type_len-bytes_of
        ∙ drop_at (header_of order n (length T.strings) ++ bytes_of_words order (flat T.records)) T.strings (header_length + n)
        (omega (arith, length-bytes_of_words order (flat T.records)))

    -- the words of the blob's type section are those of the table's records
    pub type_words-bytes_of : type_words (bytes_of order T) ≡ flat T.records
    unfolding type_words bytes_of
    type_words-bytes_of =
        let n : ℕ = type_len_of T.records in
        ap (λ (o : Order). words o (take (type_len (bytes_of order T)) (drop header_length (bytes_of order T)))) order-bytes_of
        ∙ ap (λ (l : ℕ). words order (take l (drop header_length (bytes_of order T)))) type_len-bytes_of
        ∙ ap (words order) (take_at (bytes_of_words order (flat T.records)) T.strings n (length-bytes_of_words order (flat T.records)))
        ∙ words-bytes_of_words order (flat T.records) h.words-fit

    -- ── the table comes back ──

    -- the walk of the blob finds the table's records
    pub walk-bytes_of : walk (bytes_of order T) ≡ records T.records
    unfolding walk
    walk-bytes_of = ap (walk_from type_limit 1 header_length) type_words-bytes_of ∙ walk_from-flat type_limit 1 header_length T.records h.whole h.types_fit

    -- the blob of a table that fits holds that table
    pub table_of-bytes_of : table_of (bytes_of order T) ≡ T
    unfolding table_of
    table_of-bytes_of = λ i. record { records = ap records_in walk-bytes_of i; strings = strings_in-bytes_of i }

    -- ── phase 1 passes a built blob ──

    header_length-bytes_of : word_at (order_of (bytes_of order T)) (bytes_of order T) 4 ≡ header_length
    unfolding word_at bytes_of
    header_length-bytes_of = ap (λ (o : Order). word_at o (bytes_of order T) 4) order-bytes_of ∙ first_word-word_bytes order header_length [] (omega arith)

    type_off-bytes_of : type_off (bytes_of order T) ≡ 0
    unfolding type_off word_at bytes_of
    type_off-bytes_of = ap (λ (o : Order). word_at o (bytes_of order T) 8) order-bytes_of ∙ first_word-word_bytes order 0 [] (omega arith)

    -- the header's facts hold where the blob is short enough and the strings begin and end with 0
    pub bytes_of-facts : length (bytes_of order T) ≤ byte_limit → Closed T.strings → HeaderFacts (bytes_of order T)
    unfolding bytes_of
    bytes_of-facts short closed =
        record {
          long = omega (arith, length-bytes_of);
          short = short;
          opens = ap opening (sym order-bytes_of);
          header_length_is = header_length-bytes_of;
          type_off_is = type_off-bytes_of;
          type_len_is = omega (arith, type_len-bytes_of);
          str_off_is = str_off-bytes_of ∙ sym type_len-bytes_of;
          sum = omega (arith, type_len-bytes_of, str_len-bytes_of, length-bytes_of);
          some_strings = omega (arith, str_len-bytes_of, closed.filled);
          first_zero = ap (λ (s : List ℕ). get_or s 0 0) strings_in-bytes_of ∙ closed.first;
          last_zero = rw (strings_in-bytes_of, str_len-bytes_of) closed.last;
        }

    -- and so phase 1 is silent
    pub header_report-bytes_of : length (bytes_of order T) ≤ byte_limit → Closed T.strings → header_report (bytes_of order T) ≡ none
    header_report-bytes_of short closed = facts-header_report (bytes_of order T) (bytes_of-facts short closed)
