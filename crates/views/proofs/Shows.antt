-- Laws of the table that an index shows: its records one by one, for any bytes and any index.
-- Assumes nothing.
use Prim.Native.Nat.{ℕ, zero, suc, ◌+◌, ◌-◌, ◌≤◌, ◌<◌}
use mathlib.Core.Path.{◌≡◌, refl, sym, ap, ◌∙◌, subst}
use mathlib.Core.Bool.{Bool, true, false, cond}
use mathlib.Core.List.{List, [], ◌∷◌, ◌++◌}
use denote.Ref.{Bor}
use lib.Dec.{leb, ltb}
use native.Mathlib.Omega.{arith}
use borrow.Author.Tests.{eq-eqb, ne_eqb, lt-ltb, le-ltb, le-leb, lt-leb, ltb-true, ltb-false}
use lib.ListN.{length, get_or, take, drop, get_or-eq_default, drop_of_length-le}
use lib.Seq.{drop-nil, drop-length, ext_get_or}
use Rattle.paper.proofs.bytes.Bytes.{part-rest}
use Rattle.paper.proofs.walks.Insides.{record_at-outside}
use Rattle.paper.specs.rules.Header.{header_length, order_of, type_len, strings_in}
use Rattle.paper.specs.rules.Kind.{rows, row_of}
use Rattle.paper.specs.terms.Reading.{record_in}
use Rattle.paper.specs.rules.Table.{Table, count, nothing, record_at, tail_length}
use Rattle.paper.specs.declared.Order.{Order}
use Rattle.paper.specs.rules.Word.{first_word, word_at}
use Rattle.views.specs.Shown.{outside, place_by, within, holder, record_from, start_in, record_by, records_by, table_by, bytes_by}
use Rattle.views.specs.Shown.{Starts, strings_start, PartIn, ShownAs, WordOf, StringsAs}
use Rattle.views.specs.declared.View.{View}

-- no bytes are the record of no kind
pub record_in-empty : (order : Order) → record_in order [] ≡ nothing
unfolding record_in word_at tail_length row_of rows
record_in-empty order = refl

-- where a list has a place, what it is to have elsewhere does not matter
pub get_d-else : (s : List ℕ) (i d e : ℕ) → i < length s → get_or s i d ≡ get_or s i e
get_d-else [] i d e h = absurd (omega arith)
get_d-else (x ∷ s) zero d e h = refl
get_d-else (x ∷ s) (suc i) d e h = get_d-else s i d e (omega arith)

-- ── a place of the blob, or its end ──

module _ (b : List ℕ) where
  pub within-past : {p : ℕ} → length b < p → within b p ≡ length b
  within-past {p} h = rw (lt-ltb (length b) p h) refl

  pub within-inside : {p : ℕ} → p ≤ length b → within b p ≡ p
  within-inside {p} h = rw (le-ltb (length b) p h) refl

  within_end : within b (length b) ≡ length b
  within_end = within-inside (omega arith)

  within_low : (p : ℕ) → within b p ≤ length b
  within_low p = go (ltb (length b) p) refl
    where
      go : (z : Bool) → ltb (length b) p ≡ z → cond z (length b) p ≤ length b
      go true e = omega arith
      go false e = ltb-false (length b) p e

  -- what is past the end has no bytes, and neither has the end
  drop-within : (p : ℕ) → drop (within b p) b ≡ drop p b
  drop-within p = go (ltb (length b) p) refl
    where
      go : (z : Bool) → ltb (length b) p ≡ z → drop (cond z (length b) p) b ≡ drop p b
      go true e = let h = ltb-true (length b) p e in drop-length b ∙ sym (drop_of_length-le b {i = p} (omega arith))
      go false e = refl

module _ (v : View) {t : ℕ} where
  outside-void : t ≡ 0 → outside v t ≡ true
  outside-void e = rw (eq-eqb t 0 e) refl

  module _ (low : t ≡ 0 → ⊥) where
    outside_above : v.n < t → outside v t ≡ true
    outside_above h = rw (ne_eqb t 0 low, lt-ltb v.n t h) refl

    outside-within : t ≤ v.n → outside v t ≡ false
    outside-within h = rw (ne_eqb t 0 low, le-ltb v.n t h) refl

-- ── which blob holds a type ──

module _ {A : Type 0} (v : View) (t : ℕ) (base b : A) where
  pub holder-base : t ≤ v.before → holder v t base b ≡ base
  holder-base h = rw (le-leb t v.before h) refl

  pub holder-own : v.before < t → holder v t base b ≡ b
  holder-own h = rw (lt-leb t v.before h) refl

-- what is said of both blobs is said of the one that holds it
now-holder : (v : View) (t : ℕ) (base b : Bor (List ℕ)) → (holder v t base b).now ≡ holder v t base.now b.now
now-holder v t base b = go (leb t v.before)
  where
    go : (z : Bool) → (cond z base b).now ≡ cond z base.now b.now
    go true = refl
    go false = refl

-- ── where the bytes of a type begin in a blob ──

module _ (s index : List ℕ) (v : View) where
  start_in-outside : (t : ℕ) → outside v t ≡ true → length s ≡ start_in s index v t
  unfolding start_in
  start_in-outside t e = rw e refl

  start_in-within : (t : ℕ) → outside v t ≡ false → within s (get_or index t (length s)) ≡ start_in s index v t
  unfolding start_in
  start_in-within t e = rw e refl

  pub start-void : {t : ℕ} → t ≡ 0 → length s ≡ start_in s index v t
  start-void {t} e = start_in-outside t (outside-void v e)

  module _ {t : ℕ} (low : t ≡ 0 → ⊥) where
    pub start-above : v.n < t → length s ≡ start_in s index v t
    start-above h = start_in-outside t (outside_above v low h)

    module _ (high : t ≤ v.n) where
      here : within s (get_or index t (length s)) ≡ start_in s index v t
      here = start_in-within t (outside-within v low high)

      pub start-unlisted : length index ≤ t → length s ≡ start_in s index v t
      start-unlisted h = sym (within_end s) ∙ ap (within s) (sym (get_or-eq_default index (length s) h)) ∙ here

      module _ (listed : t < length index) where
        place : within s (get_or index t 0) ≡ start_in s index v t
        place = ap (within s) (get_d-else index t 0 (length s) listed) ∙ here

        pub start-past : length s < get_or index t 0 → length s ≡ start_in s index v t
        start-past h = sym (within-past s h) ∙ place

        pub start-there : get_or index t 0 ≤ length s → get_or index t 0 ≡ start_in s index v t
        start-there h = sym (within-inside s h) ∙ place

        -- the bytes from there on, whether or not the place is there
        start-bytes : drop (get_or index t 0) s ≡ drop (start_in s index v t) s
        start-bytes = sym (drop-within s (get_or index t 0)) ∙ ap (λ (p : ℕ). drop p s) place

  start_in-inside : (t : ℕ) → start_in s index v t ≤ length s
  unfolding start_in
  start_in-inside t = go (outside v t)
    where
      go : (z : Bool) → cond z (length s) (within s (get_or index t (length s))) ≤ length s
      go true = omega arith
      go false = within_low s (get_or index t (length s))

  pub starts : {t from : ℕ} → from ≡ start_in s index v t → Starts s index v t from
  starts {t} e = record { inside = omega (arith, e, start_in-inside t); there = e }

  -- no bytes of a number outside
  start_none : (t : ℕ) → outside v t ≡ true → [] ≡ drop (start_in s index v t) s
  start_none t e = sym (drop-length s) ∙ ap (λ (p : ℕ). drop p s) (start_in-outside t e)

  start_in-record : (t : ℕ) → outside v t ≡ false → record_in v.order (drop (start_in s index v t) s) ≡ record_from s index v.order t
  unfolding record_from
  start_in-record t e =
      ap (λ (p : ℕ). record_in v.order (drop p s)) (sym (start_in-within t e)) ∙ ap (record_in v.order) (drop-within s (get_or index t (length s)))

-- ── the table, record by record ──

module _ (base b index : List ℕ) (v : View) where
  records_by-length : (n t : ℕ) → length (records_by base b index v n t) ≡ n
  records_by-length zero t = refl
  records_by-length (suc n) t = ap suc (records_by-length n (suc t))

  records_by-at : (n t i : ℕ) → i < n → get_or (records_by base b index v n t) i nothing ≡ record_by base b index v (t + i)
  records_by-at zero t i h = absurd (omega arith)
  records_by-at (suc n) t zero h = ap (record_by base b index v) (omega arith)
  records_by-at (suc n) t (suc i) h = records_by-at n (suc t) i (omega arith) ∙ ap (record_by base b index v) (omega arith)

  pub table_by-count : count (table_by base b index v) ≡ v.n
  unfolding table_by
  table_by-count = records_by-length v.n 1

  pub table_by-record : (t : ℕ) → 1 ≤ t → t ≤ v.n → record_at (table_by base b index v) t ≡ record_by base b index v t
  unfolding table_by
  table_by-record zero low h = absurd (omega arith)
  table_by-record (suc t) low h = records_by-at v.n 1 t (omega arith) ∙ ap (record_by base b index v) (omega arith)

  -- ── the bytes of a type are those of its record ──

  shown-none : (t : ℕ) → outside v t ≡ true → record_at (table_by base b index v) t ≡ nothing
      → record_in v.order (bytes_by base b index v t) ≡ record_at (table_by base b index v) t
  unfolding bytes_by
  shown-none t o e = ap (record_in v.order) (sym (start_none (holder v t base b) index v t o)) ∙ record_in-empty v.order ∙ sym e

  pub bytes_by-record : (t : ℕ) → record_in v.order (bytes_by base b index v t) ≡ record_at (table_by base b index v) t
  unfolding bytes_by record_by
  bytes_by-record zero = shown-none 0 (outside-void v refl) refl
  bytes_by-record (suc t) = go (ltb v.n (suc t)) refl
    where
      go : (z : Bool) → ltb v.n (suc t) ≡ z → record_in v.order (bytes_by base b index v (suc t)) ≡ record_at (table_by base b index v) (suc t)
      go true e =
          let h = ltb-true v.n (suc t) e in
          shown-none (suc t) (outside_above v {t = suc t} (λ z. omega arith) h)
          (record_at-outside (table_by base b index v) (suc t) (rw table_by-count h))
      go false e =
          let h = ltb-false v.n (suc t) e in
          start_in-record (holder v (suc t) base b) index v (suc t) (outside-within v {t = suc t} (λ z. omega arith) h)
          ∙ sym (table_by-record (suc t) (omega arith) h)

-- a part of the blob that holds a type begins with its record
pub shown-part : {base b r : Bor (List ℕ)} {index : List ℕ} {v : View} {t : ℕ} → PartIn (holder v t base b) index v t r → ShownAs base b index v t r
unfolding bytes_by
shown-part {base} {b} {r} {index} {v} {t} p =
    record {
      part = p;
      shows =
          ap (record_in v.order) (p.bytes ∙ ap (λ (s : List ℕ). drop (start_in s index v t) s) (now-holder v t base b))
          ∙ bytes_by-record base.now b.now index v t;
    }

-- and so does a part of a blob that is the one that holds it
pub shown-held : {base b s r : Bor (List ℕ)} {index : List ℕ} {v : View} {t : ℕ} → holder v t base b ≡ s → PartIn s index v t r → ShownAs base b index v t r
shown-held {base} {b} {s} {r} {index} {v} {t} e p = shown-part (subst (λ (x : Bor (List ℕ)). PartIn x index v t r) (sym e) p)

-- ── a word of it ──

-- no bytes, no word
word_none : (order : Order) (k : ℕ) → 0 ≡ word_at order [] k
unfolding word_at
word_none order k = ap (first_word order) (sym (drop-nil k))

pub word-past : (order : Order) (s : List ℕ) (p k : ℕ) → length s < p → 0 ≡ word_at order (drop p s) k
word-past order s p k h = word_none order k ∙ ap (λ (x : List ℕ). word_at order x k) (sym (drop_of_length-le s {i = p} (omega arith)))

pub word-part : (order : Order) (s : List ℕ) (p k : ℕ) {r : ℕ} → r ≡ word_at order (take (length s - p) (drop p s)) k → r ≡ word_at order (drop p s) k
word-part order s p k e = e ∙ ap (λ (x : List ℕ). word_at order x k) (part-rest s p)

module _ (base b index : List ℕ) (v : View) {t at : ℕ} where
  word-is : {s : List ℕ} {r : ℕ} → s ≡ bytes_by base b index v t → r ≡ word_at v.order s at → WordOf base b index v t at r
  word-is e d = record { says = d ∙ ap (λ (s : List ℕ). word_at v.order s at) e; shows = bytes_by-record base b index v t }

  word-outside : outside v t ≡ true → WordOf base b index v t at 0
  unfolding bytes_by
  word-outside e = word-is (start_none (holder v t base b) index v t e) (word_none v.order at)

  -- by a part of the blob that holds it
  pub word-part-of : {s p : Bor (List ℕ)} {r : ℕ} → holder v t base b ≡ s.now → PartIn s index v t p → r ≡ word_at v.order p.now at
      → WordOf base b index v t at r
  unfolding bytes_by
  word-part-of e p d = word-is (p.bytes ∙ ap (λ (x : List ℕ). drop (start_in x index v t) x) (sym e)) d

  module _ (low : t ≡ 0 → ⊥) where
    pub word-above : v.n < t → WordOf base b index v t at 0
    word-above h = word-outside (outside_above v low h)

    module _ (high : t ≤ v.n) where
      pub word-unlisted : length index ≤ t → WordOf base b index v t at 0
      unfolding bytes_by
      word-unlisted h =
          let s = holder v t base b in
          word-is (sym (drop-length s) ∙ ap (λ (p : ℕ). drop p s) (start-unlisted s index v low high h)) (word_none v.order at)

      pub word_held : t < length index → {s : List ℕ} {r : ℕ} → holder v t base b ≡ s → r ≡ word_at v.order (drop (get_or index t 0) s) at
          → WordOf base b index v t at r
      unfolding bytes_by
      word_held listed e d =
          word-is (ap (drop (get_or index t 0)) (sym e) ∙ start-bytes (holder v t base b) index v low high listed) d

-- the same word of two that are allowed
pub word-one : {base b index : List ℕ} {v : View} {t at r r' : ℕ} → WordOf base b index v t at r → WordOf base b index v t at r' → r ≡ r'
word-one h k = h.says ∙ sym k.says

-- ── the place that a report carries ──

module _ (index : List ℕ) (v : View) {t : ℕ} where
  pub place_by-void : t ≡ 0 → 0 ≡ place_by index v t
  unfolding place_by
  place_by-void e = rw (outside-void v e) refl

  module _ (low : t ≡ 0 → ⊥) where
    pub place_by-above : v.n < t → 0 ≡ place_by index v t
    unfolding place_by
    place_by-above h = rw (outside_above v low h) refl

    pub place_by-there : t ≤ v.n → get_or index t 0 ≡ place_by index v t
    unfolding place_by
    place_by-there h = rw (outside-within v low h) refl

    pub place_by-unlisted : t ≤ v.n → length index ≤ t → 0 ≡ place_by index v t
    place_by-unlisted h l = sym (get_or-eq_default index 0 l) ∙ place_by-there h

-- ── the strings ──

module _ (b : List ℕ) {w : ℕ} (e : w ≡ word_at (order_of b) b 12) where
  strings-from : within b (24 + w) ≡ strings_start b
  unfolding strings_start type_len
  strings-from = ap (λ (l : ℕ). within b (24 + l)) e

  pub strings-past : length b < 24 + w → length b ≡ strings_start b
  strings-past h = sym (within-past b h) ∙ strings-from

  pub strings-inside : 24 + w ≤ length b → 24 + w ≡ strings_start b
  strings-inside h = sym (within-inside b h) ∙ strings-from

pub strings_start-strings : (b : List ℕ) → drop (strings_start b) b ≡ strings_in b
unfolding strings_start strings_in
strings_start-strings b = drop-within b (header_length + type_len b)

-- of no bytes there are none
pub strings_in-none : strings_in [] ≡ []
unfolding strings_in
strings_in-none = drop-nil (header_length + type_len [])

-- ── parts: the same bytes at the same place ──

-- a part's pointer, by where the part begins
pub part-place : (s : Bor (List ℕ)) {m n : ℕ} → m ≡ n → ◌≡◌ {A = ℕ × ℕ} (s.ref_ptr.0, m + s.ref_ptr.1) (s.ref_ptr.0, n + s.ref_ptr.1)
part-place s e = ap {B = ℕ × ℕ} (λ (k : ℕ). (s.ref_ptr.0, k + s.ref_ptr.1)) e

pub shown-one : {base b r r' : Bor (List ℕ)} {index : List ℕ} {v : View} {t : ℕ} → ShownAs base b index v t r → ShownAs base b index v t r'
    → (r.now ≡ r'.now) × (r.ref_ptr ≡ r'.ref_ptr)
shown-one h k = (h.part.bytes ∙ sym k.part.bytes, h.part.place ∙ sym k.part.place)

pub strings-one : {b r r' : Bor (List ℕ)} → StringsAs b r → StringsAs b r' → (r.now ≡ r'.now) × (r.ref_ptr ≡ r'.ref_ptr)
strings-one h k = (h.bytes ∙ sym k.bytes, h.place ∙ sym k.place)

-- ── which table it is ──

-- a table of so many types, whose records stand where the index says and whose strings are both blobs', is the table that the index shows
pub table_by-is : (base b index : List ℕ) (v : View) (T : Table) → v.n ≡ count T
    → ((t : ℕ) → t < v.n → record_by base b index v (suc t) ≡ get_or T.records t nothing)
    → strings_in base ++ strings_in b ≡ T.strings → table_by base b index v ≡ T
unfolding table_by
table_by-is base b index v T counted there strings = λ i. record { records = same i; strings = strings i }
  where
    same : records_by base b index v v.n 1 ≡ T.records
    same =
        let many = records_by-length base b index v v.n 1 in
        ext_get_or nothing _ _ (many ∙ counted)
        (λ t h. records_by-at base b index v v.n 1 t (rw many at h) ∙ ap (record_by base b index v) (omega arith) ∙ there t (rw many at h))
