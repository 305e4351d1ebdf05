-- The table that an index shows, of any bytes and any index: what the phases over the types are promised of.
-- `base` is the blob that a table leans on, which has its first records; of a table that stands alone it has no bytes.
use Rattle.std.specs.Prelude.{ℕ, zero, suc, ◌+◌, ◌≤◌, ◌≡◌, Bool, cond, ◌||◌, List, [], ◌∷◌, ◌++◌, eqb, leb, ltb, length, get_or, drop}
use Rattle.std.specs.Borrow.{Bor}
use Rattle.paper.specs.rules.Header.{header_length, type_len, strings_in}
use Rattle.paper.specs.terms.Reading.{record_in}
use Rattle.paper.specs.rules.Table.{Record, Table, record_at}
use Rattle.paper.specs.declared.Order.{Order}
use Rattle.paper.specs.rules.Word.{word_at}
use Rattle.views.specs.declared.View.{View}

-- void, and a number above n
abbrev pub outside : View → ℕ → Bool
outside v t = eqb t 0 || ltb v.n t

-- the place of a type's record; 0 for a number outside and for one that the index has no place for
unfoldable pub place_by : List ℕ → View → ℕ → ℕ
place_by index v t = cond (outside v t) 0 (get_or index t 0)

-- a place of the blob, or its end
abbrev pub within : List ℕ → ℕ → ℕ
within b p = cond (ltb (length b) p) (length b) p

module _ {A : Type 0} where
  -- which of two blobs holds a type's record: the base, up to its count of types
  abbrev pub holder : View → ℕ → A → A → A
  holder v t base b = cond (leb t v.before) base b

-- the record that a blob's bytes from a type's place on begin with; no bytes, and so `nothing`, where the index or the blob has no such place
unfoldable pub record_from : List ℕ → List ℕ → Order → ℕ → Record
record_from s index order t = record_in order (drop (get_or index t (length s)) s)

-- where the bytes of a type begin in a blob: its end for a number outside, and where the index or the blob has no such place
unfoldable pub start_in : List ℕ → List ℕ → View → ℕ → ℕ
start_in s index v t = cond (outside v t) (length s) (within s (get_or index t (length s)))

module _ (base b index : List ℕ) (v : View) where
  -- a type's record, in the blob that holds it
  unfoldable pub record_by : ℕ → Record
  record_by t = record_from (holder v t base b) index v.order t

  -- those of so many types from t on
  abbrev pub records_by : ℕ → ℕ → List Record
  records_by zero t = []
  records_by (suc n) t = record_by t ∷ records_by n (suc t)

  unfoldable pub table_by : Table
  table_by = record { records = records_by v.n 1; strings = strings_in base ++ strings_in b }

  -- the bytes from a type's record on, in the blob that holds it
  unfoldable pub bytes_by : ℕ → List ℕ
  bytes_by t = drop (start_in (holder v t base b) index v t) (holder v t base b)

-- that place, which is inside the blob
pub record Starts (s index : List ℕ) (v : View) (t from : ℕ) : Type 0 where
  pub inside : from ≤ length s
  pub there : from ≡ start_in s index v t

-- where the string section begins, by the header
unfoldable pub strings_start : List ℕ → ℕ
strings_start b = within b (header_length + type_len b)

-- a reference to the bytes of one blob from a type's record on: the very place that it points to
pub record PartIn (s : Bor (List ℕ)) (index : List ℕ) (v : View) (t : ℕ) (r : Bor (List ℕ)) : Type 0 where
  pub bytes : r.now ≡ drop (start_in s.now index v t) s.now
  pub place : r.ref_ptr ≡ (s.ref_ptr.0, start_in s.now index v t + s.ref_ptr.1)

-- a reference to those bytes in the blob that holds the record, and the record that they begin with
pub record ShownAs (base b : Bor (List ℕ)) (index : List ℕ) (v : View) (t : ℕ) (r : Bor (List ℕ)) : Type 0 where
  pub part : PartIn (holder v t base b) index v t r
  pub shows : record_in v.order r.now ≡ record_at (table_by base.now b.now index v) t

-- the word at a place of a type's record, by the bytes that the record begins
pub record WordOf (base b index : List ℕ) (v : View) (t at r : ℕ) : Type 0 where
  pub says : r ≡ word_at v.order (bytes_by base b index v t) at
  pub shows : record_in v.order (bytes_by base b index v t) ≡ record_at (table_by base b index v) t

-- a reference to a blob's strings
pub record StringsAs (b r : Bor (List ℕ)) : Type 0 where
  pub bytes : r.now ≡ strings_in b.now
  pub place : r.ref_ptr ≡ (b.ref_ptr.0, strings_start b.now + b.ref_ptr.1)
