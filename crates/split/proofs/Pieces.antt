-- The parts of a blob that a cut goes through, as pieces of the blob: where their records and strings stand, and how long they are.
-- Assumes nothing.
use Prim.Native.Nat.{ℕ, ◌+◌, ◌-◌, ◌*◌, ◌≤◌}
use mathlib.Core.Path.{◌≡◌, sym, ap, ◌∙◌}
use mathlib.Core.List.{List, ◌++◌, append_assoc}
use native.Mathlib.Omega.{arith}
use lib.ListN.{length, take, drop, length-append, length-drop, take-append-drop}
use lib.Seq.{drop_at, drop-drop}
use Rattle.paper.proofs.bytes.Blobs.{strings-table_of, types-length}
use Rattle.paper.proofs.bytes.Bytes.{bytes_of_words-append, length-bytes_of_words}
use Rattle.paper.proofs.bytes.Places.{flat_append}
use Rattle.paper.proofs.bytes.Tables.{length-bytes_of}
use Rattle.paper.proofs.gates.Acceptance.{accepted-bytes, accepted-good, accepted-meets, accepted-sections}
use Rattle.paper.proofs.joins.Grouping.{flat-rename}
use Rattle.paper.specs.rules.Header.{order_of, type_len, strings_in}
use Rattle.paper.specs.rules.Limits.{byte_limit}
use Rattle.paper.specs.rules.Table.{Record, Table}
use Rattle.paper.specs.rules.Walk.{flat, table_of, type_len_of}
use Rattle.paper.specs.rules.Word.{bytes_of_words, word_at}
use Rattle.paper.specs.terms.Good.{Good, HeaderFacts}
use Rattle.parts.proofs.Cutting.{CutFacts, cut_ok-facts, length-first}
use Rattle.parts.specs.Cut.{first_part, second_part, lowered, first_bytes, second_bytes}
use Rattle.split.specs.Parting.{CutAsk}

module _ {b : List ℕ} {n s middle : ℕ} (w : CutAsk b n s middle) where
  abbrev T : Table
  T = table_of b

  abbrev firsts : List Record
  firsts = take n (table_of b).records

  abbrev seconds : List Record
  seconds = drop n (table_of b).records

  pub facts : CutFacts n s (table_of b)
  facts = cut_ok-facts n s (table_of b) w.goes

  pub good : Good (table_of b)
  good = accepted-good b w.places w.work w.accepted

  pub header : HeaderFacts b
  header = (accepted-meets b w.places w.work w.accepted).readable.header

  -- ── the sections ──

  pub flat-both : flat (table_of b).records ≡ flat firsts ++ flat seconds
  flat-both = sym (ap flat (take-append-drop n (table_of b).records)) ∙ flat_append firsts seconds

  pub sections : drop 24 b ≡ bytes_of_words (order_of b) (flat (take n (table_of b).records)) ++ (bytes_of_words (order_of b) (flat (drop n (table_of b).records)) ++ (table_of b).strings)
  sections =
      accepted-sections b w.places w.work w.accepted w.bytes
      ∙ ap (λ (ws : List ℕ). bytes_of_words (order_of b) ws ++ (table_of b).strings) flat-both
      ∙ ap (λ (x : List ℕ). x ++ (table_of b).strings) (bytes_of_words-append (order_of b) (flat firsts) (flat seconds))
      ∙ append_assoc (bytes_of_words (order_of b) (flat firsts)) (bytes_of_words (order_of b) (flat seconds)) (table_of b).strings

  -- the second's records
  pub behind-middle : drop middle b ≡ bytes_of_words (order_of b) (flat (drop n (table_of b).records)) ++ (table_of b).strings
  behind-middle =
      ap (λ (k : ℕ). drop k b) w.there
      ∙ sym (drop-drop (type_len_of firsts) 24 b)
      ∙ ap (drop (type_len_of firsts)) sections
      ∙ drop_at (bytes_of_words (order_of b) (flat firsts)) _ (type_len_of firsts) (length-bytes_of_words (order_of b) (flat firsts))

  -- the strings
  pub strings-here : {t : ℕ} → t ≡ word_at (order_of b) b 12 → drop (24 + t) b ≡ (table_of b).strings
  unfolding type_len strings_in
  strings-here e = ap (λ (k : ℕ). drop (24 + k) b) e ∙ sym (strings-table_of b)

  -- ── the lengths ──

  pub record Widths : Type 0 where
    pub types : type_len_of (take n (table_of b).records) + type_len_of (drop n (table_of b).records) ≡ word_at (order_of b) b 12
    pub sum : 24 + word_at (order_of b) b 12 + length (table_of b).strings ≡ length b
    pub short : length b ≤ byte_limit
    pub filled : 1 ≤ s
    pub ends : s ≤ length (table_of b).strings
    pub first-long : length (first_bytes b n s) ≡ middle + s
    pub second-long : length (second_bytes b n s) ≡ 24 + type_len_of (drop n (table_of b).records) + (1 + (length (table_of b).strings - s))

  pub widths : Widths
  unfolding first_bytes second_bytes first_part second_part lowered type_len
  widths =
      let t : type_len_of firsts + type_len_of seconds ≡ word_at (order_of b) b 12 =
      sym (ap (λ (ws : List ℕ). 4 * length ws) flat-both ∙ ap (λ (k : ℕ). 4 * k) (length-append (flat firsts) (flat seconds)) ∙ omega arith)
      ∙ types-length b header (accepted-meets b w.places w.work w.accepted).readable.section in
      let whole = ap length (accepted-bytes b w.places w.work w.accepted w.bytes) in
      let long = length-bytes_of (order_of b) (table_of b) in
      let all = types-length b header (accepted-meets b w.places w.work w.accepted).readable.section in
      let lowers = flat-rename (λ v. v - n) (λ v. v - (s - 1)) seconds in
      let d = length-drop s (table_of b).strings in
      let there = w.there in
      record {
        types = t;
        sum = omega arith;
        short = header.short;
        filled = facts.filled;
        ends = facts.long;
        first-long = length-bytes_of (order_of b) (first_part n s (table_of b)) ∙ ap (λ (k : ℕ). 24 + type_len_of firsts + k) (length-first facts) ∙ omega arith;
        second-long = length-bytes_of (order_of b) (second_part n s (table_of b)) ∙ omega arith;
      }
