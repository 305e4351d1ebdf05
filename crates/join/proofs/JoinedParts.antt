-- The joined blob as its five parts, each a part of the two blobs, and the lengths of the sections.
-- Assumes nothing.
use Prim.Native.Nat.{ℕ, ◌+◌, ◌-◌, ◌≤◌}
use mathlib.Core.Path.{◌≡◌, refl, sym, ap, ap₂, ◌∙◌}
use mathlib.Core.List.{List, [], ◌∷◌, ◌++◌, map, append_assoc}
use mathlib.Core.Option.{none}
use native.Mathlib.Omega.{arith}
use lib.ListN.{length, take, drop, length-append, length-drop}
use lib.Seq.{drop-drop, length-take-le}
use Rattle.join.specs.Joins.{WriteAsk}
use Rattle.paper.proofs.bytes.Blobs.{bytes_of-table_of, table_of-fits, header-first, type_words-bytes, strings-table_of, strings-length, types-length}
use Rattle.paper.proofs.bytes.Bytes.{part-rest, part-back, bytes_of_words-append}
use Rattle.paper.proofs.bytes.Headers.{facts-header_report}
use Rattle.paper.proofs.bytes.Places.{flat_append}
use Rattle.paper.proofs.bytes.Puts.{length-put, put-put, put_front, put_whole, put-behind, laid-fits}
use Rattle.paper.proofs.bytes.Tables.{header_of, bytes_of-parts, length-bytes_of}
use Rattle.paper.proofs.gates.Acceptance.{accepted-meets, accepted-closed, readable-walk}
use Rattle.paper.proofs.joins.Grouping.{words-join}
use Rattle.paper.proofs.joins.Joining.{length-strings}
use Rattle.paper.specs.terms.Good.{Readable}
use Rattle.paper.specs.rules.Header.{header_report, order_of, type_len, str_len, strings_in}
use Rattle.paper.specs.rules.Join.{raised, join_tables, joined_bytes}
use Rattle.paper.specs.rules.Limits.{byte_limit}
use Rattle.paper.specs.terms.Put.{put, laid}
use Rattle.paper.specs.rules.Rename.{rename, raise}
use Rattle.paper.specs.rules.Table.{Table}
use Rattle.paper.specs.rules.Walk.{records, walk, table_of, flat, type_len_of}
use Rattle.paper.specs.declared.Order.{Order}
use Rattle.paper.specs.rules.Word.{word_at, bytes_of_words}
use Rattle.shift.proofs.RaisedRecords.{length-records_bytes, raised_run-records}
use Rattle.shift.specs.Raising.{raised_record, records_bytes, raised_run}
use Rattle.shift.specs.declared.groups.Shift.{Shift}

-- ── the lengths ──

-- what a header says of its blob, in the words that code reads
pub record Widths (b : List ℕ) : Type 0 where
  pub sum : 24 + word_at (order_of b) b 12 + word_at (order_of b) b 20 ≡ length b
  pub some_strings : 1 ≤ word_at (order_of b) b 20
  pub short : length b ≤ byte_limit

-- the lengths of the sections of two blobs, and of the joined one
pub record Lengths (first strings second seconds a b room : ℕ) : Type 0 where
  pub first_sum : 24 + first + strings ≡ a
  pub second_sum : 24 + second + seconds ≡ b
  pub first_some : 1 ≤ strings
  pub second_some : 1 ≤ seconds
  pub sum : room ≡ 24 + (first + second) + (strings + (seconds - 1))
  pub short : room ≤ byte_limit

-- how long the parts are that are copied
pub length_part : (s : List ℕ) (n : ℕ) → 24 + n ≤ length s → length (take (24 + n - 24) (drop 24 s)) ≡ n
length_part s n h = let d = length-drop 24 s in length-take-le (24 + n - 24) (drop 24 s) (omega arith) ∙ omega arith

pub length_rest : (s : List ℕ) (p : ℕ) → length (take (length s - p) (drop p s)) ≡ length s - p
length_rest s p = ap length (part-rest s p) ∙ length-drop p s

module _ {b : List ℕ} {places work : ℕ} (r : Readable b places work) where
  pub readable-widths : Widths b
  unfolding type_len str_len
  readable-widths = let f = r.header in record { sum = f.sum; some_strings = f.some_strings; short = f.short }

-- one run behind another
pub put_next : (out : List ℕ) (s : List ℕ) {out₁ out₂ : List ℕ} {q : ℕ} (t : List ℕ) → length s ≤ length out → q ≡ length s
    → out₁ ≡ put out 0 s → out₂ ≡ put out₁ q t → out₂ ≡ put out 0 (s ++ t)
put_next out s {out₁} {out₂} {q} t room far e f =
    f ∙ ap (λ (o : List ℕ). put o q t) e ∙ put-put out 0 s (omega arith) (omega arith) t

-- ── the parts ──

module _ {a b : List ℕ} {n m room : ℕ} (w : WriteAsk a b n m room) where
  readable-first : Readable a w.both.places w.both.work
  readable-first = (accepted-meets a _ _ w.both.first).readable

  readable-second : Readable b w.both.places w.both.work
  readable-second = (accepted-meets b _ _ w.both.second).readable

  pub widths-first : Widths a
  widths-first = readable-widths readable-first

  pub widths-second : Widths b
  widths-second = readable-widths readable-second

  -- the words of the header that give the lengths
  joined-types : type_len_of (join_tables (table_of a) (table_of b)).records ≡ word_at (order_of a) a 12 + word_at (order_of b) b 12
  unfolding type_len
  joined-types =
      let j = words-join (table_of a) (table_of b) in
      let f = types-length a readable-first.header readable-first.section in
      let s = types-length b readable-second.header readable-second.section in
      omega arith

  joined-strings : length (join_tables (table_of a) (table_of b)).strings ≡ word_at (order_of a) a 20 + (word_at (order_of b) b 20 - 1)
  unfolding str_len
  joined-strings =
      let f = strings-length a readable-first.header in
      let s = strings-length b readable-second.header in
      length-strings (table_of a) (table_of b) (accepted-closed a _ _ w.both.first) (accepted-closed b _ _ w.both.second) ∙ omega arith

  pub joined-room : room ≡ 24 + (word_at (order_of a) a 12 + word_at (order_of b) b 12) + (word_at (order_of a) a 20 + (word_at (order_of b) b 20 - 1))
  unfolding joined_bytes
  joined-room =
      let t = joined-types in
      let s = joined-strings in
      w.fits ∙ length-bytes_of (order_of a) (join_tables (table_of a) (table_of b)) ∙ omega arith

  -- the four lengths as they are read, in an output of room bytes
  pub write-lengths : {first strings second seconds : ℕ} → first ≡ word_at (order_of a) a 12 → strings ≡ word_at (order_of a) a 20 → second ≡ word_at (order_of b) b 12
      → seconds ≡ word_at (order_of b) b 20
      → Lengths first strings second seconds (length a) (length b) room
  write-lengths e f g h =
      let wa = widths-first in
      let wb = widths-second in
      let r = joined-room in
      let s = w.fits in
      let t = w.short in
      record { first_sum = omega arith; second_sum = omega arith; first_some = omega arith; second_some = omega arith; sum = omega arith; short = omega arith }

  -- the second's records, raised into the output from a place on
  records-run : (by : Shift) → by.order ≡ order_of b → (out : List ℕ) (q : ℕ) → q + word_at (order_of b) b 12 ≤ length out
      → take q out ++ raised_run by m (drop 24 b) (drop q out) ≡ put out q (records_bytes by (table_of b).records)
  unfolding type_len
  records-run by ordered out q room =
      let T : Table = table_of b in
      let x : List ℕ = records_bytes by T.records in
      let fits = table_of-fits b w.both.second_bytes silent T.records walked in
      let long = types-length b readable-second.header readable-second.section in
      let wide = length-records_bytes by T.records in
      let d = length-drop q out in
      ap₂ (λ (k : ℕ) (s : List ℕ). take q out ++ raised_run by k s (drop q out)) w.both.second_count behind
      ∙ ap (λ (t : List ℕ). take q out ++ t)
      (raised_run-records by T.records T.strings (drop q out) fits.whole fits.words-fit (omega arith)
      ∙ ap (λ (k : ℕ). x ++ drop k (drop q out)) (sym wide)
      ∙ sym (put_front (drop q out) x))
      ∙ put-behind out q x
    where
      silent : header_report b ≡ none
      silent = facts-header_report b readable-second.header

      walked : walk b ≡ records (table_of b).records
      walked = readable-walk b w.both.places w.both.work readable-second

      behind : drop 24 b ≡ bytes_of_words by.order (flat (table_of b).records) ++ (table_of b).strings
      behind =
          ap (drop 24) (sym (bytes_of-table_of b w.both.second_bytes silent (table_of b).records walked))
          ∙ ap (drop 24) (bytes_of-parts (order_of b) (table_of b))
          ∙ ap (λ (o : Order). bytes_of_words o (flat (table_of b).records) ++ (table_of b).strings) (sym ordered)

  -- the header that is written is that of the joined blob
  header-part : (types strings : ℕ) → header_of (order_of a) types strings ≡ take 12 a ++ bytes_of_words (order_of a) (types ∷ types ∷ strings ∷ [])
  header-part types strings =
      ap (λ (s : List ℕ). s ++ bytes_of_words (order_of a) (types ∷ types ∷ strings ∷ []))
      (sym (ap (take 12) (header-first a w.both.first_bytes readable-first.header)))

  records-part : bytes_of_words (order_of a) (flat (table_of a).records) ≡ take (word_at (order_of a) a 12) (drop 24 a)
  unfolding type_len
  records-part = ap (bytes_of_words (order_of a)) readable-first.section.flat_found ∙ type_words-bytes a w.both.first_bytes readable-first.header

  raised-part : (by : Shift) → by.order ≡ order_of a → by.types.0 ≡ n → by.names.0 ≡ word_at (order_of a) a 20 - 1
      → bytes_of_words (order_of a) (flat (map (raised (table_of a)) (table_of b).records)) ≡ records_bytes by (table_of b).records
  unfolding records_bytes str_len
  raised-part by o e f =
      let s = strings-length a readable-first.header in
      ap₂ (λ (x y : ℕ). bytes_of_words (order_of a) (flat (map (rename (raise x) (raise y)) (table_of b).records)))
      (sym (e ∙ w.both.first_count))
      (ap (λ (l : ℕ). l - 1) s ∙ sym f)
      ∙ ap (λ (q : Order). bytes_of_words q (flat (map (raised_record by) (table_of b).records))) (sym o)

  first-strings : (table_of a).strings ≡ drop (24 + word_at (order_of a) a 12) a
  unfolding type_len strings_in
  first-strings = strings-table_of a

  second-strings : drop 1 (table_of b).strings ≡ drop (25 + word_at (order_of b) b 12) b
  unfolding type_len strings_in
  second-strings =
      let far : 24 + word_at (order_of b) b 12 + 1 ≡ 25 + word_at (order_of b) b 12 = omega arith in
      ap (drop 1) (strings-table_of b) ∙ drop-drop 1 (24 + word_at (order_of b) b 12) b ∙ ap (λ (p : ℕ). drop p b) far

  module _ (by : Shift) (shift-order : by.order ≡ order_of a) (shift-types : by.types.0 ≡ n) (shift-names : by.names.0 ≡ word_at (order_of a) a 20 - 1)
      {types strings : ℕ} (both-types : types ≡ word_at (order_of a) a 12 + word_at (order_of b) b 12)
      (both-strings : strings ≡ word_at (order_of a) a 20 + (word_at (order_of b) b 20 - 1)) where
    -- the header, the first's records, the second's raised, the first's strings, the second's without their first byte
    abbrev header : List ℕ
    header = take 12 a ++ bytes_of_words by.order (types ∷ types ∷ strings ∷ [])

    abbrev firsts : List ℕ
    firsts = take (word_at (order_of a) a 12) (drop 24 a)

    abbrev seconds : List ℕ
    seconds = records_bytes by (table_of b).records

    joined-parts : joined_bytes a b ≡ header ++ ((firsts ++ seconds) ++ (drop (24 + word_at (order_of a) a 12) a ++ drop (25 + word_at (order_of b) b 12) b))
    unfolding joined_bytes join_tables
    joined-parts =
        let A = table_of a in
        let B = table_of b in
        bytes_of-parts (order_of a) (join_tables A B)
        ∙ ap₂ (λ (t s : ℕ). header_of (order_of a) t s ++ (bytes_of_words (order_of a) (flat (join_tables A B).records) ++ (join_tables A B).strings))
        (joined-types ∙ sym both-types) (joined-strings ∙ sym both-strings)
        ∙ ap₂ (λ (h r : List ℕ). h ++ (r ++ (join_tables A B).strings)) (header-part types strings ∙ ap (λ (q : Order). take 12 a ++ bytes_of_words q (types ∷ types ∷ strings ∷ [])) (sym shift-order))
        (ap (bytes_of_words (order_of a)) (flat_append A.records (map (raised A) B.records))
        ∙ bytes_of_words-append (order_of a) (flat A.records) (flat (map (raised A) B.records))
        ∙ ap₂ (λ (r s : List ℕ). r ++ s) records-part (raised-part by shift-order shift-types shift-names))
        ∙ ap₂ (λ (s t : List ℕ). header ++ ((firsts ++ seconds) ++ (s ++ t))) first-strings second-strings

    -- each put behind the one before, they are the joined blob
    pub write-joined : (out : List ℕ) {out₁ out₂ out₃ out₄ out₅ : List ℕ} {at₂ at₃ at₄ at₅ : ℕ} → length out ≡ room
        → out₁ ≡ put out 0 header
        → out₂ ≡ put out₁ at₂ firsts → at₂ ≡ 24
        → out₃ ≡ put out₂ at₃ seconds → at₃ ≡ word_at (order_of a) a 12 + 24
        → out₄ ≡ put out₃ at₄ (drop (24 + word_at (order_of a) a 12) a) → at₄ ≡ 24 + types
        → out₅ ≡ put out₄ at₅ (drop (25 + word_at (order_of b) b 12) b) → at₅ ≡ 24 + types + word_at (order_of a) a 20
        → out₅ ≡ joined_bytes a b
    unfolding type_len
    write-joined out same p₁ p₂ e₂ p₃ e₃ p₄ e₄ p₅ e₅ =
        let wa = widths-first.sum in
        let wb = widths-second.sum in
        let sa = widths-first.some_strings in
        let sb = widths-second.some_strings in
        let whole = joined-room in
        let s₁ : List ℕ = drop (24 + word_at (order_of a) a 12) a in
        let s₂ : List ℕ = drop (25 + word_at (order_of b) b 12) b in
        let twelve = length-take-le 12 a (omega arith) in
        let l₁ = length-append (take 12 a) (bytes_of_words by.order (types ∷ types ∷ strings ∷ [])) in
        let f = length-take-le (word_at (order_of a) a 12) (drop 24 a) (simp length-drop (omega arith)) in
        let l₂ = length-append header firsts in
        let s = length-records_bytes by (table_of b).records ∙ types-length b readable-second.header readable-second.section in
        let l₃ = length-append (header ++ firsts) seconds in
        let d₁ = length-drop (24 + word_at (order_of a) a 12) a in
        let l₄ = length-append (header ++ firsts ++ seconds) s₁ in
        let d₂ = length-drop (25 + word_at (order_of b) b 12) b in
        let l₅ = length-append (header ++ firsts ++ seconds ++ s₁) s₂ in
        let q₂ = put_next out header firsts (omega arith) (omega arith) p₁ p₂ in
        let q₃ = put_next out (header ++ firsts) seconds (omega arith) (omega arith) q₂ p₃ in
        let q₄ = put_next out (header ++ firsts ++ seconds) s₁ (omega arith) (omega arith) q₃ p₄ in
        let q₅ = put_next out (header ++ firsts ++ seconds ++ s₁) s₂ (omega arith) (omega arith) q₄ p₅ in
        q₅
        ∙ put_whole out (header ++ firsts ++ seconds ++ s₁ ++ s₂) (omega arith)
        ∙ regroup header firsts seconds s₁ s₂
        ∙ sym joined-parts
      where
        regroup : (u v x y z : List ℕ) → u ++ v ++ x ++ y ++ z ≡ u ++ ((v ++ x) ++ (y ++ z))
        regroup u v x y z = simp append_assoc

    -- the same, as code cuts the parts out, lays them, and gets one back
    pub write-parts : (out : List ℕ) {out₁ out₂ part out₄ out₅ : List ℕ} {first second strings₁ : ℕ}
        → first ≡ word_at (order_of a) a 12 → second ≡ word_at (order_of b) b 12 → strings₁ ≡ word_at (order_of a) a 20
        → length out ≡ room
        → out₁ ≡ put out 0 header
        → out₂ ≡ laid out₁ 24 (take (24 + first - 24) (drop 24 a))
        → part ≡ raised_run by m (take (length b - 24) (drop 24 b)) (take (length out₂ - (24 + first)) (drop (24 + first) out₂))
        → let out₃ = take (24 + first) out₂ ++ (part ++ drop (length out₂ - (24 + first)) (drop (24 + first) out₂)) in
        out₄ ≡ laid out₃ (24 + types) (take (length a - (24 + first)) (drop (24 + first) a))
        → out₅ ≡ laid out₄ (24 + types + strings₁) (take (length b - (25 + second)) (drop (25 + second) b))
        → length out₁ ≡ length out → length out₂ ≡ length out₁ → length out₄ ≡ length out₃
        → out₅ ≡ joined_bytes a b
    unfolding type_len
    write-parts out {out₁} {out₂} {part} {out₄} {out₅} {first} {second} {strings₁} e f g same p₁ p₂ p₃ p₄ p₅ l₁ l₂ l₄ =
        let wa = widths-first.sum in
        let wb = widths-second.sum in
        let sa = widths-first.some_strings in
        let sb = widths-second.some_strings in
        let whole = joined-room in
        let cut : 24 + first - 24 ≡ word_at (order_of a) a 12 = omega arith in
        let there : 24 + first ≡ word_at (order_of a) a 12 + 24 = omega arith in
        let n₂ = length_part a first (omega arith) in
        let n₃ = length-records_bytes by (table_of b).records ∙ types-length b readable-second.header readable-second.section in
        let n₄ = length_rest a (24 + first) in
        let n₅ = length_rest b (25 + second) in
        let out₃ : List ℕ = take (24 + first) out₂ ++ (part ++ drop (length out₂ - (24 + first)) (drop (24 + first) out₂)) in
        let q₃ : out₃ ≡ put out₂ (24 + first) seconds =
        part-back out₂ (24 + first) part
        ∙ ap (λ (t : List ℕ). take (24 + first) out₂ ++ t) p₃
        ∙ ap₂ (λ (s t : List ℕ). take (24 + first) out₂ ++ raised_run by m s t) (part-rest b 24) (part-rest out₂ (24 + first))
        ∙ records-run by (shift-order ∙ w.one-order) out₂ (24 + first) (omega arith) in
        let l₃ = ap length q₃ ∙ length-put out₂ (24 + first) seconds (omega arith) in
        write-joined out same p₁
        (p₂ ∙ sym (laid-fits out₁ 24 _ (omega arith)) ∙ ap (λ (k : ℕ). put out₁ 24 (take k (drop 24 a))) cut) refl
        q₃ there
        (p₄ ∙ sym (laid-fits out₃ (24 + types) _ (omega arith)) ∙ ap (put out₃ (24 + types)) (part-rest a (24 + first) ∙ ap (λ (k : ℕ). drop (24 + k) a) e))
        refl
        (p₅
        ∙ sym (laid-fits out₄ (24 + types + strings₁) _ (omega arith))
        ∙ ap (put out₄ (24 + types + strings₁)) (part-rest b (25 + second) ∙ ap (λ (k : ℕ). drop (25 + k) b) f))
        (omega arith)
