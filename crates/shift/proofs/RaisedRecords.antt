-- A record put group by group, and so many records one behind the other.
-- Assumes nothing.
use Prim.Native.Nat.{ℕ, suc, ◌+◌, ◌-◌, ◌*◌, ◌≤◌, ◌<◌}
use mathlib.Core.Path.{◌≡◌, refl, sym, ap, ap₂, subst, ◌∙◌}
use mathlib.Core.Bool.{Bool, true, false, cond}
use mathlib.Core.List.{List, [], ◌∷◌, ◌++◌, map, append_assoc}
use native.Mathlib.Nat.{mul_left_comm}
use native.Mathlib.Omega.{arith}
use borrow.Author.Tests.{le-leb, lt-leb, leb-true, leb-false}
use lib.Dec.{leb}
use lib.ListN.{length, take, drop, length-append, length-drop, take-append-drop}
use lib.Seq.{take_at, drop_at, drop-drop, length-take-le}
use Rattle.shift.specs.Raising.{raised_from, head_roles, raised_record, record_length, record_bytes, records_bytes, raised_run}
use Rattle.shift.specs.Raising.{HeadPut, GroupOf, GroupAsk, GroupPut, EntriesAsk, EntriesPut, RecordPut, RecordAsk}
use Rattle.shift.specs.declared.groups.Group.{Group}
use Rattle.shift.specs.declared.groups.Shift.{Shift}
use Rattle.shift.proofs.RaisedWords.{length-raised_from, record_bytes-parts}
use Rattle.paper.proofs.bytes.Bytes.{part-back, below_left, below_right, length-bytes_of_words, bytes_of_words-append}
use Rattle.paper.proofs.bytes.Puts.{length-put, put-put, put_front, put_whole, laid-fits, laid-short}
use Rattle.paper.proofs.bytes.Reading.{length-record_in, record_in-whole}
use Rattle.paper.proofs.joins.Grouping.{flat-rename}
use Rattle.paper.proofs.renaming.Rename.{length-rename}
use Rattle.paper.specs.rules.Choice.{times}
use Rattle.paper.specs.rules.Kind.{row_of}
use Rattle.paper.specs.rules.Table.{Record, kind_in, vlen_in, tail_length, words_of}
use Rattle.paper.specs.rules.Walk.{flat, type_len_of}
use Rattle.paper.specs.declared.Order.{Order}
use Rattle.paper.specs.rules.Word.{bytes_of_words, word_at}
use Rattle.paper.specs.terms.Fit.{Below, EveryWhole, word_bound}
use Rattle.paper.specs.terms.Put.{put}
use Rattle.paper.specs.terms.Reading.{record_in}

-- ── a record, group by group ──

-- the groups of its kind, and room for them
module _ {order : Order} {s : List ℕ} {room : ℕ} (a : RecordAsk order s room) {info kind : ℕ} (read : info ≡ word_at order s 4) (kinded : kind ≡ kind_in info) where
  all_fit : 12 + (4 * length (row_of kind).once + vlen_in info * (4 * length (row_of kind).each)) ≡ room
  unfolding tail_length
  all_fit =
      let l = length-record_in order s ∙ ap (λ (i : ℕ). 3 + tail_length i) (sym read) in
      let k = ap (λ (j : ℕ). length (row_of j).once + vlen_in info * length (row_of j).each) kinded in
      let same = mul_left_comm (vlen_in info) 4 (length (row_of kind).each) in
      let f = a.fits in
      omega arith

  pub head-ask : 12 ≤ room
  head-ask = let l = all_fit in omega arith

  module _ {h : Group} (second : GroupOf h (row_of kind).once) where
    pub once-ask : {room₁ : ℕ} → room₁ ≡ room → GroupAsk h 12 room₁
    once-ask same =
        let l = all_fit in
        let c = second.counted in
        let f = second.few in
        record { few = omega arith; fits = omega arith; small = omega (arith, a.small) }

    module _ {e : Group} (third : GroupOf e (row_of kind).each) {v : ℕ} (counted : v ≡ vlen_in info) where
      pub entries-ask : {room₂ : ℕ} → room₂ ≡ room → EntriesAsk e v (12 + 4 * h.words) room₂
      entries-ask {room₂} same =
          let l = all_fit in
          let c = second.counted in
          let f = second.few in
          let wide : 12 + 4 * h.words + v * (4 * e.words) ≤ room₂ = rw (counted, third.counted) (omega arith) in
          record { few = omega (arith, third.counted, third.few); fits = wide; small = omega (arith, a.small) }

module _ {by : Shift} {s : List ℕ} {out out₁ out₂ out₃ : List ℕ} (a : RecordAsk by.order s (length out))
    {info kind v : ℕ} (read : info ≡ word_at by.order s 4) (kinded : kind ≡ kind_in info) (counted : v ≡ vlen_in info)
    {h e : Group} (second : GroupOf h (row_of kind).once) (third : GroupOf e (row_of kind).each)
    (p₁ : HeadPut by kind s out out₁) (p₂ : GroupPut by h s 12 out₁ out₂) (p₃ : EntriesPut by e v s (12 + 4 * h.words) out₂ out₃) where
  abbrev head : List ℕ
  head = raised_from by s 0 (head_roles kind)

  abbrev once : List ℕ
  once = raised_from by s 12 (row_of kind).once

  abbrev entries : List ℕ
  entries = raised_from by s (12 + 4 * length (row_of kind).once) (times v (row_of kind).each)

  -- the three runs are those of the record
  parts : head ++ (once ++ entries) ≡ record_bytes by (record_in by.order s)
  parts =
      ap₂
      (λ (k n : ℕ). raised_from by s 0 (head_roles k)
      ++ (raised_from by s 12 (row_of k).once ++ raised_from by s (12 + 4 * length (row_of k).once) (times n (row_of k).each)))
      (kinded ∙ ap kind_in read)
      (counted ∙ ap vlen_in read)
      ∙ sym (record_bytes-parts by s)

  -- one is put behind the other
  pub record-put : out₃ ≡ put out 0 (record_bytes by (record_in by.order s))
  record-put =
      let l = all_fit a read kinded in
      let c = second.counted in
      let d = length-raised_from by s 0 (head_roles kind) in
      let f = length-raised_from by s 12 (row_of kind).once in
      let one = p₁.puts in
      let same = ap length one ∙ length-put out 0 head (omega arith) in
      p₃.puts (row_of kind).each third
      ∙ ap₂ (λ (o : List ℕ) (n : ℕ). put o (12 + 4 * n) (raised_from by s (12 + 4 * n) (times v (row_of kind).each))) (p₂.puts (row_of kind).once second) c
      ∙ put-put out₁ 12 once (omega arith) (omega arith) entries
      ∙ ap (λ (o : List ℕ). put o 12 (once ++ entries)) one
      ∙ put-put out 0 head (omega arith) (omega arith) (once ++ entries)
      ∙ ap (put out 0) parts

-- ── a record at the front of an output ──

-- a record has as many bytes raised as it had
pub length-record_bytes : (by : Shift) (r : Record) → length (record_bytes by r) ≡ 4 * length (words_of r)
unfolding record_bytes
length-record_bytes by r = length-bytes_of_words by.order (words_of (raised_record by r)) ∙ ap (λ (n : ℕ). 4 * n) (length-rename _ _ r)

-- what the code counts is what the record has
pub record_length-read : (order : Order) (s : List ℕ) {info w : ℕ} → info ≡ word_at order s 4 → w ≡ tail_length info → 12 + 4 * w ≡ record_length order s
record_length-read order s read tail =
    let l = length-record_in order s in
    let t = tail ∙ ap tail_length read in
    omega arith

module _ {by : Shift} (s : List ℕ) {out : List ℕ} {size : ℕ} (is : size ≡ record_length by.order s) where
  pub front-short : length out < size → RecordPut by s out out 0
  front-short short =
      let l = length-record_bytes by (record_in by.order s) in
      record {
        puts = laid-short out 0 (record_bytes by (record_in by.order s)) (omega arith);
        long = sym (ap (λ (t : Bool). cond t (record_length by.order s) 0) (lt-leb (record_length by.order s) (length out) (omega arith)));
      }

  pub front_fits : size ≤ length out → {after : List ℕ} → after ≡ put (take size out) 0 (record_bytes by (record_in by.order s))
      → RecordPut by s out (after ++ drop size out) size
  front_fits room {after} e =
      let bs : List ℕ = record_bytes by (record_in by.order s) in
      let l = length-record_bytes by (record_in by.order s) in
      let t = length-take-le size out room in
      let far : size ≡ length bs = omega arith in
      record {
        puts =
            ap₂ (λ (x : List ℕ) (n : ℕ). x ++ drop n out) (e ∙ put_whole (take size out) bs (omega arith)) far
            ∙ sym (put_front out bs)
            ∙ laid-fits out 0 bs (omega arith);
        long = is ∙ sym (ap (λ (t : Bool). cond t (record_length by.order s) 0) (le-leb (record_length by.order s) (length out) (omega arith)));
      }

-- ── so many records ──

-- the next record fits, or it does not
module _ (by : Shift) (k : ℕ) (s out : List ℕ) where
  raised_run-fits : record_length by.order s ≤ length out
      → raised_run by (suc k) s out ≡ record_bytes by (record_in by.order s) ++ raised_run by k (drop (record_length by.order s) s) (drop (record_length by.order s) out)
  raised_run-fits room =
      ap (λ (t : Bool). cond t (record_bytes by (record_in by.order s) ++ raised_run by k (drop (record_length by.order s) s) (drop (record_length by.order s) out)) out)
      (le-leb (record_length by.order s) (length out) room)

  raised_run-short : length out < record_length by.order s → raised_run by (suc k) s out ≡ out
  raised_run-short short =
      ap (λ (t : Bool). cond t (record_bytes by (record_in by.order s) ++ raised_run by k (drop (record_length by.order s) s) (drop (record_length by.order s) out)) out)
      (lt-leb (record_length by.order s) (length out) short)

-- which of the two it is, by what is answered
module _ {by : Shift} {s before after : List ℕ} {size : ℕ} (one : RecordPut by s before after size) where
  answered-short : size ≡ 0 → length before < record_length by.order s
  answered-short none = go (leb (record_length by.order s) (length before)) refl
    where
      go : (t : Bool) → leb (record_length by.order s) (length before) ≡ t → length before < record_length by.order s
      go true e = absurd (let z = one.long ∙ ap (λ (t : Bool). cond t (record_length by.order s) 0) e in omega arith)
      go false e = omega (arith, leb-false (record_length by.order s) (length before) e)

  answered-fits : (size ≡ 0 → ⊥) → (record_length by.order s ≤ length before) × (size ≡ record_length by.order s)
  answered-fits some = go (leb (record_length by.order s) (length before)) refl
    where
      go : (t : Bool) → leb (record_length by.order s) (length before) ≡ t → (record_length by.order s ≤ length before) × (size ≡ record_length by.order s)
      go true e = (leb-true (record_length by.order s) (length before) e, one.long ∙ ap (λ (t : Bool). cond t (record_length by.order s) 0) e)
      go false e = absurd (some (one.long ∙ ap (λ (t : Bool). cond t (record_length by.order s) 0) e))

-- so many are left, and p bytes are written
pub record Running (by : Shift) (s : List ℕ) (n : ℕ) (before : List ℕ) (p left : ℕ) (after : List ℕ) : Type 0 where
  pub inside : p ≤ length after
  pub same_length : length after ≡ length before
  pub rest : take p after ++ raised_run by left (drop p s) (drop p after) ≡ raised_run by n s before

pub running-start : {by : Shift} {s before : List ℕ} {n : ℕ} → Running by s n before 0 n before
running-start = record { inside = omega arith; same_length = refl; rest = refl }

module _ {by : Shift} {s before after : List ℕ} {n p left : ℕ} (r : Running by s n before p left after) where
  pub running-done : left ≤ 0 → after ≡ raised_run by n s before
  running-done h =
      let none : 0 ≡ left = omega arith in
      sym (take-append-drop p after) ∙ ap (λ (k : ℕ). take p after ++ raised_run by k (drop p s) (drop p after)) none ∙ r.rest

  module _ {part : List ℕ} {size : ℕ} (one : RecordPut by (drop p s) (drop p after) part size) (more : 0 < left) where
    -- what is left, with one record split off
    rest-one : take p after ++ raised_run by (suc (left - 1)) (drop p s) (drop p after) ≡ raised_run by n s before
    rest-one =
        let again : suc (left - 1) ≡ left = omega arith in
        ap (λ (k : ℕ). take p after ++ raised_run by k (drop p s) (drop p after)) again ∙ r.rest

    running-stop : size ≡ 0 → Running by s n before p 0 (take p after ++ part)
    running-stop none = subst (Running by s n before p 0) (sym same) (record { inside = r.inside; same_length = r.same_length; rest = ends })
      where
        short : length (drop p after) < record_length by.order (drop p s)
        short = answered-short one none

        same : take p after ++ part ≡ after
        same =
            let l = length-record_bytes by (record_in by.order (drop p s)) in
            let f = short in
            ap (λ (t : List ℕ). take p after ++ t) (one.puts ∙ sym (laid-short (drop p after) 0 (record_bytes by (record_in by.order (drop p s))) (omega arith)))
            ∙ take-append-drop p after

        ends : take p after ++ drop p after ≡ raised_run by n s before
        ends = ap (λ (t : List ℕ). take p after ++ t) (sym (raised_run-short by (left - 1) (drop p s) (drop p after) short)) ∙ rest-one

    module _ (some : size ≡ 0 → ⊥) where
      abbrev bs : List ℕ
      bs = record_bytes by (record_in by.order (drop p s))

      abbrev behind : List ℕ
      behind = drop size (drop p after)

      fits : (record_length by.order (drop p s) ≤ length (drop p after)) × (size ≡ record_length by.order (drop p s))
      fits = answered-fits one some

      size-bytes : length bs ≡ size
      size-bytes = let f = fits in omega (arith, length-record_bytes by (record_in by.order (drop p s)))

      cut : take p after ++ part ≡ (take p after ++ bs) ++ behind
      cut =
          let f = fits in
          let l = size-bytes in
          ap (λ (t : List ℕ). take p after ++ t)
          (one.puts ∙ sym (laid-fits (drop p after) 0 bs (omega arith)) ∙ put_front (drop p after) bs ∙ ap (λ (k : ℕ). bs ++ drop k (drop p after)) size-bytes)
          ∙ sym (append_assoc (take p after) bs behind)

      front : length (take p after ++ bs) ≡ p + size
      front = let i = r.inside in let t = length-take-le p after r.inside in omega (arith, length-append (take p after) bs, size-bytes)

      still : length ((take p after ++ bs) ++ behind) ≡ length before
      still =
          let f = fits in
          let d = length-drop p after in
          let e = length-drop size (drop p after) in
          omega (arith, length-append (take p after ++ bs) behind, front, r.inside, r.same_length)

      far-inside : p + size ≤ length ((take p after ++ bs) ++ behind)
      far-inside = omega (arith, length-append (take p after ++ bs) behind, front)

      goes_on : take (p + size) ((take p after ++ bs) ++ behind)
          ++ raised_run by (left - 1) (drop (p + size) s) (drop (p + size) ((take p after ++ bs) ++ behind))
          ≡ raised_run by n s before
      goes_on =
          let f = fits in
          (λ i. take_at (take p after ++ bs) behind (p + size) front i
          ++ raised_run by (left - 1) (sym (drop-drop size p s) i) (drop_at (take p after ++ bs) behind (p + size) front i))
          ∙ append_assoc (take p after) bs (raised_run by (left - 1) (drop size (drop p s)) behind)
          ∙ ap (λ (k : ℕ). take p after ++ (bs ++ raised_run by (left - 1) (drop k (drop p s)) (drop k (drop p after)))) f.1
          ∙ ap (λ (t : List ℕ). take p after ++ t) (sym (raised_run-fits by (left - 1) (drop p s) (drop p after) f.0))
          ∙ rest-one

      running-next : Running by s n before (p + size) (left - 1) (take p after ++ part)
      running-next = subst (Running by s n before (p + size) (left - 1)) (sym cut) (record { inside = far-inside; same_length = still; rest = goes_on })

-- the same, as code hands out a part of each slice and gets one back
module _ {by : Shift} {s before after : List ℕ} {n p left : ℕ} (r : Running by s n before p left after)
    {bytes mid part : List ℕ} {size : ℕ} (one : RecordPut by bytes mid part size) (read : bytes ≡ drop p s) (lent : mid ≡ drop p after) (more : 0 < left) where
  one-there : RecordPut by (drop p s) (drop p after) part size
  one-there = subst (λ (b : List ℕ). RecordPut by b (drop p after) part size) read (subst (λ (b : List ℕ). RecordPut by bytes b part size) lent one)

  abbrev back : List ℕ
  back = take p after ++ (part ++ drop (length after - p) (drop p after))

  pub running-stopped : size ≡ 0 → Running by s n before p 0 back
  running-stopped none = subst (Running by s n before p 0) (sym (part-back after p part)) (running-stop r one-there more none)

  pub running-on : (size ≡ 0 → ⊥) → Running by s n before (p + size) (left - 1) back
  running-on some = subst (Running by s n before (p + size) (left - 1)) (sym (part-back after p part)) (running-next r one-there more some)

  pub running-fits : (size ≡ 0 → ⊥) → p + size ≤ length after
  running-fits some =
      let f = answered-fits one-there some in
      omega (arith, length-drop p after, r.inside)

-- ── the records of a table ──

records_bytes-none : (by : Shift) (out : List ℕ) → out ≡ records_bytes by [] ++ out
unfolding records_bytes
records_bytes-none by out = refl

-- a record's bytes before those of the others
records_bytes-cons : (by : Shift) (r : Record) (rs : List Record) → records_bytes by (r ∷ rs) ≡ record_bytes by r ++ records_bytes by rs
unfolding records_bytes record_bytes
records_bytes-cons by r rs = bytes_of_words-append by.order (words_of (raised_record by r)) (flat (map (raised_record by) rs))

-- as many bytes as they had
pub length-records_bytes : (by : Shift) (rs : List Record) → length (records_bytes by rs) ≡ type_len_of rs
unfolding records_bytes
length-records_bytes by rs = length-bytes_of_words by.order (flat (map (raised_record by) rs)) ∙ ap (λ (n : ℕ). 4 * n) (flat-rename _ _ rs)

-- one record in front of bytes for the others
run-one : (by : Shift) (r : Record) (k : ℕ) (s t out : List ℕ) → s ≡ bytes_of_words by.order (words_of r) ++ t → record_in by.order s ≡ r
    → 4 * length (words_of r) ≤ length out
    → raised_run by (suc k) s out ≡ record_bytes by r ++ raised_run by k t (drop (4 * length (words_of r)) out)
run-one by r k s t out split is room =
    let long : record_length by.order s ≡ 4 * length (words_of r) = ap (λ (q : Record). 4 * length (words_of q)) is in
    let behind : drop (record_length by.order s) s ≡ t =
    ap₂ (λ (n : ℕ) (q : List ℕ). drop n q) long split
    ∙ drop_at (bytes_of_words by.order (words_of r)) t (4 * length (words_of r)) (length-bytes_of_words by.order (words_of r)) in
    raised_run-fits by k s out (omega arith)
    ∙ (λ i. record_bytes by (is i) ++ raised_run by k (behind i) (drop (long i) out))

-- where there is room for them, whatever stands behind them
pub raised_run-records : (by : Shift) (rs : List Record) (t out : List ℕ) → EveryWhole rs → Below word_bound (flat rs) → type_len_of rs ≤ length out
    → raised_run by (length rs) (bytes_of_words by.order (flat rs) ++ t) out ≡ records_bytes by rs ++ drop (type_len_of rs) out
raised_run-records by [] t out whole fit room = records_bytes-none by out
raised_run-records by (r ∷ rs) t out whole fit room =
    let words : List ℕ = bytes_of_words by.order (words_of r) in
    let later : List ℕ = bytes_of_words by.order (flat rs) ++ t in
    let size : ℕ = 4 * length (words_of r) in
    let split : bytes_of_words by.order (words_of r ++ flat rs) ++ t ≡ words ++ later =
    ap (λ (s : List ℕ). s ++ t) (bytes_of_words-append by.order (words_of r) (flat rs)) ∙ append_assoc words (bytes_of_words by.order (flat rs)) t in
    let is = ap (record_in by.order) split ∙ record_in-whole by.order r later whole.0 (below_left word_bound (words_of r) (flat rs) fit) in
    let l = length-append (words_of r) (flat rs) in
    let d = length-drop size out in
    let far : size + type_len_of rs ≡ type_len_of (r ∷ rs) = omega arith in
    run-one by r (length rs) _ later out split is (omega arith)
    ∙ ap (λ (s : List ℕ). record_bytes by r ++ s)
    (raised_run-records by rs t (drop size out) whole.1 (below_right word_bound (words_of r) (flat rs) fit) (omega arith))
    ∙ sym (append_assoc (record_bytes by r) (records_bytes by rs) (drop (type_len_of rs) (drop size out)))
    ∙ ap₂ (λ (x y : List ℕ). x ++ y) (sym (records_bytes-cons by r rs)) (drop-drop (type_len_of rs) size out ∙ ap (λ (n : ℕ). drop n out) far)
