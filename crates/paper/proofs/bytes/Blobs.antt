-- Laws of `Walk`: a blob that passes phases 1 and 2 is built again, byte for byte, from the table that it holds.
-- Assumes nothing.
use Prim.Native.Nat.{ℕ, ◌+◌, ◌*◌, ◌≤◌}
use mathlib.Core.Path.{◌≡◌, refl, sym, ap, ◌∙◌}
use mathlib.Core.List.{List, [], ◌∷◌, ◌++◌}
use mathlib.Core.Option.{none}
use native.Mathlib.Omega.{arith}
use lib.ListN.{length, take, drop, length-drop, take-append-drop}
use lib.Seq.{length-take-le, drop-drop}
use Rattle.paper.specs.terms.Fit.{Below, Bytes, word_bound, Fits}
use Rattle.paper.specs.terms.Good.{SectionFacts, HeaderFacts, WholeWalk}
use Rattle.paper.specs.rules.Header.{header_length, opening, order_of, type_off, type_len, str_off, str_len, strings_in, header_report}
use Rattle.paper.specs.rules.Limits.{type_limit}
use Rattle.paper.specs.rules.Table.{Record, Table}
use Rattle.paper.specs.rules.Walk.{records, records_in, type_words, walk, table_of, flat, type_len_of, bytes_of}
use Rattle.paper.specs.rules.Word.{word_of, word_bytes, first_word, word_at, bytes_of_words}
use Rattle.paper.specs.declared.Order.{Order}
use Rattle.paper.proofs.bytes.Words.{word_bytes-word_of}
use Rattle.paper.proofs.bytes.Bytes.{below-take, below-drop, words-fit, length-words, bytes_of_words-words}
use Rattle.paper.proofs.bytes.Headers.{header_report-facts}
use Rattle.paper.proofs.bytes.Sections.{flat-walk_from}
use Rattle.paper.proofs.bytes.Tables.{header_of, bytes_of-parts}

-- ── the parts of a blob ──

-- a run of bytes begins with the bytes of its first word
first_word-bytes : (order : Order) (s : List ℕ) → Bytes s → 4 ≤ length s → s ≡ word_bytes order (first_word order s) ++ drop 4 s
first_word-bytes order [] h l = absurd (omega arith)
first_word-bytes order (a ∷ []) h l = absurd (omega arith)
first_word-bytes order (a ∷ b ∷ []) h l = absurd (omega arith)
first_word-bytes order (a ∷ b ∷ c ∷ []) h l = absurd (omega arith)
first_word-bytes order (a ∷ b ∷ c ∷ d ∷ s) h l =
    let word : word_bytes order (word_of order a b c d) ≡ a ∷ b ∷ c ∷ d ∷ [] = word_bytes-word_of order h.0 h.1.0 h.1.1.0 h.1.1.1.0 in
    ap (λ (t : List ℕ). t ++ s) (sym word)

-- at a place stand the bytes of the word that is read there
pub drop-word_at : (order : Order) (b : List ℕ) (p : ℕ) → Bytes b → p + 4 ≤ length b → {w : ℕ} → word_at order b p ≡ w
    → drop p b ≡ word_bytes order w ++ drop (p + 4) b
unfolding word_at
drop-word_at order b p h l {w} e =
    first_word-bytes order (drop p b) (below-drop 256 p b h) (simp length-drop (omega arith))
    ∙ ap (λ (v : ℕ). word_bytes order v ++ drop 4 (drop p b)) e
    ∙ ap (λ (t : List ℕ). word_bytes order w ++ t) (drop-drop 4 p b)

-- ── of a blob that passes reports 1 to 4 ──

module _ (b : List ℕ) (f : SectionFacts b) where
  -- the type section is as long as the header says
  pub section-long : length (take (type_len b) (drop header_length b)) ≡ type_len b
  section-long = length-take-le (type_len b) (drop header_length b) (simp length-drop (omega (arith, f.sum)))

  -- and so are the strings
  pub strings-long : length (strings_in b) ≡ str_len b
  unfolding strings_in
  strings-long = simp length-drop (omega (arith, f.sum))

  -- the type section has four bytes to a word
  pub words_long : 4 * length (type_words b) ≡ type_len b
  unfolding type_words
  words_long = omega (arith, length-words (order_of b) (take (type_len b) (drop header_length b)), section-long, f.type_len_is)

module _ (b : List ℕ) (bytes : Bytes b) (f : SectionFacts b) where
  -- a blob begins with the header of its own numbers
  pub header-opens : b ≡ header_of (order_of b) (type_len b) (str_len b) ++ drop header_length b
  unfolding type_off type_len str_off str_len
  header-opens =
      sym (take-append-drop 4 b)
      ∙ ap (λ (s : List ℕ). s ++ drop 4 b) f.opens
      ∙ ap (λ (s : List ℕ). opening (order_of b) ++ s) (drop-word_at (order_of b) b 4 bytes (omega (arith, f.long)) f.header_length_is
      ∙ ap (λ (s : List ℕ). word_bytes (order_of b) header_length ++ s) (drop-word_at (order_of b) b 8 bytes (omega (arith, f.long)) f.type_off_is
      ∙ ap (λ (s : List ℕ). word_bytes (order_of b) 0 ++ s) (drop-word_at (order_of b) b 12 bytes (omega (arith, f.long)) refl
      ∙ ap (λ (s : List ℕ). word_bytes (order_of b) (type_len b) ++ s) (drop-word_at (order_of b) b 16 bytes (omega (arith, f.long)) f.str_off_is
      ∙ ap (λ (s : List ℕ). word_bytes (order_of b) (type_len b) ++ s) (drop-word_at (order_of b) b 20 bytes (omega (arith, f.long)) refl)))))

  -- the type section is the bytes of its words
  pub words-bytes : bytes_of_words (order_of b) (type_words b) ≡ take (type_len b) (drop header_length b)
  unfolding type_words
  words-bytes =
      bytes_of_words-words (order_of b) (take (type_len b) (drop header_length b))
      (below-take 256 (type_len b) (drop header_length b) (below-drop 256 header_length b bytes))
      (omega (arith, section-long b f, f.type_len_is))

  -- behind the header stand the type section and the strings
  pub sections-behind : drop header_length b ≡ bytes_of_words (order_of b) (type_words b) ++ strings_in b
  unfolding strings_in
  sections-behind =
      sym (take-append-drop (type_len b) (drop header_length b))
      ∙ ap (λ (s : List ℕ). take (type_len b) (drop header_length b) ++ s) (drop-drop (type_len b) header_length b)
      ∙ ap (λ (s : List ℕ). s ++ drop (header_length + type_len b) b) (sym words-bytes)

  -- a table of a blob's words and strings is held by that blob
  pub blob-words : (T : Table) → flat T.records ≡ type_words b → T.strings ≡ strings_in b → bytes_of (order_of b) T ≡ b
  blob-words T r s =
      bytes_of-parts (order_of b) T
      ∙ ap (λ (ws : List ℕ). header_of (order_of b) (4 * length ws) (length T.strings) ++ (bytes_of_words (order_of b) ws ++ T.strings)) r
      ∙ ap (λ (t : List ℕ). header_of (order_of b) (4 * length (type_words b)) (length t) ++ (bytes_of_words (order_of b) (type_words b) ++ t)) s
      ∙ ap (λ (n : ℕ). header_of (order_of b) n (length (strings_in b)) ++ (bytes_of_words (order_of b) (type_words b) ++ strings_in b)) (words_long b f)
      ∙ ap (λ (n : ℕ). header_of (order_of b) (type_len b) n ++ (bytes_of_words (order_of b) (type_words b) ++ strings_in b)) (strings-long b f)
      ∙ ap (λ (t : List ℕ). header_of (order_of b) (type_len b) (str_len b) ++ t) (sym sections-behind)
      ∙ sym header-opens

-- ── the same of a blob that passes phase 1 ──

pub facts-sections : {b : List ℕ} → HeaderFacts b → SectionFacts b
facts-sections f =
    record {
      long = f.long;
      opens = f.opens;
      header_length_is = f.header_length_is;
      type_off_is = f.type_off_is;
      type_len_is = f.type_len_is;
      str_off_is = f.str_off_is;
      sum = f.sum;
    }

module _ (b : List ℕ) (f : HeaderFacts b) where
  pub type_section-length : length (take (type_len b) (drop header_length b)) ≡ type_len b
  type_section-length = section-long b (facts-sections f)

  pub strings_in-length : length (strings_in b) ≡ str_len b
  strings_in-length = strings-long b (facts-sections f)

  pub type_words-length : 4 * length (type_words b) ≡ type_len b
  type_words-length = words_long b (facts-sections f)

module _ (b : List ℕ) (bytes : Bytes b) (f : HeaderFacts b) where
  pub header-first : b ≡ header_of (order_of b) (type_len b) (str_len b) ++ drop header_length b
  header-first = header-opens b bytes (facts-sections f)

  pub type_words-bytes : bytes_of_words (order_of b) (type_words b) ≡ take (type_len b) (drop header_length b)
  type_words-bytes = words-bytes b bytes (facts-sections f)

  pub sections-follow : drop header_length b ≡ bytes_of_words (order_of b) (type_words b) ++ strings_in b
  sections-follow = sections-behind b bytes (facts-sections f)

  pub bytes_of-words : (T : Table) → flat T.records ≡ type_words b → T.strings ≡ strings_in b → bytes_of (order_of b) T ≡ b
  bytes_of-words = blob-words b bytes (facts-sections f)

-- the words of the type section of bytes fit 32 bits
pub type_words-fit : (b : List ℕ) → Bytes b → Below word_bound (type_words b)
unfolding type_words
type_words-fit b h =
    words-fit (order_of b) (take (type_len b) (drop header_length b)) (below-take 256 (type_len b) (drop header_length b) (below-drop 256 header_length b h))

-- the strings of bytes are bytes
pub strings_in-bytes : (b : List ℕ) → Bytes b → Bytes (strings_in b)
unfolding strings_in
strings_in-bytes b h = below-drop 256 (header_length + type_len b) b h

-- ── the blob comes back ──

-- the strings of the table that a blob holds are the blob's
pub strings-table_of : (b : List ℕ) → (table_of b).strings ≡ strings_in b
unfolding table_of
strings-table_of b = refl

-- as many bytes as the header says
pub strings-length : (b : List ℕ) → HeaderFacts b → length (table_of b).strings ≡ str_len b
strings-length b f = ap length (strings-table_of b) ∙ strings_in-length b f

-- its records are what the walk found
pub records-table_of : (b : List ℕ) {rs : List Record} → walk b ≡ records rs → (table_of b).records ≡ rs
unfolding table_of
records-table_of b e = ap records_in e

-- what the walk of a blob has found
pub table_of-found : (b : List ℕ) (rs : List Record) → walk b ≡ records rs → WholeWalk type_limit (type_words b) (table_of b).records
unfolding walk
table_of-found b rs e = rw (records-table_of b e) (flat-walk_from type_limit 1 header_length (type_words b) rs e)

-- the bytes of its records are those of the type section
pub types-length : (b : List ℕ) → HeaderFacts b → WholeWalk type_limit (type_words b) (table_of b).records → type_len_of (table_of b).records ≡ type_len b
types-length b f found = ap (λ (ws : List ℕ). 4 * length ws) found.flat_found ∙ type_words-length b f

-- the headline: the blob of the table that a blob holds is that blob
pub bytes_of-table_of : (b : List ℕ) → Bytes b → header_report b ≡ none → (rs : List Record) → walk b ≡ records rs → bytes_of (order_of b) (table_of b) ≡ b
bytes_of-table_of b bytes silent rs e =
    bytes_of-words b bytes (header_report-facts b silent) (table_of b) (table_of-found b rs e).flat_found (strings-table_of b)

-- the table that a blob holds fits a blob
pub table_of-fits : (b : List ℕ) → Bytes b → header_report b ≡ none → (rs : List Record) → walk b ≡ records rs → Fits (table_of b)
table_of-fits b bytes silent rs e =
    let f = header_report-facts b silent in
    let found = table_of-found b rs e in
    let types = types-length b f found in
    let strings = strings-length b f in
    record {
      whole = found.whole_found;
      words-fit = rw found.flat_found (type_words-fit b bytes);
      bytes_fit = rw (strings-table_of b) (strings_in-bytes b bytes);
      section_fits = omega (arith, types, f.sum, f.short);
      strings-fit = omega (arith, strings, f.sum, f.short);
      types_fit = found.few_found;
    }
