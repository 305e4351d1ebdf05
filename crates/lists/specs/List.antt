-- Order 10: "Write a table out as our house list and back." The list of a table, and the table of a list.
use Rattle.std.specs.Prelude.{ℕ, zero, suc, ◌+◌, ◌*◌, ◌/◌, ◌%◌, Bool, cond, ◌||◌, List, [], ◌∷◌, ◌++◌, eqb, leb, ltb, length, take, drop}
use Rattle.std.proofs.Math.Option.{Option, none, some}
use Rattle.paper.specs.declared.Order.{Order}
use Rattle.paper.specs.declared.Order.TheVariants.{LowFirst, HighFirst}
use Rattle.paper.specs.rules.Table.{Record, Table, kind_of, words_of}
use Rattle.paper.specs.rules.Walk.{Walked, records, stopped, known, walk_from}
use Rattle.paper.specs.rules.Word.{words, bytes_of_words}

-- ── tags ──

-- "Tag 32 holds the string section of a little-endian table, tag 33 that of a big-endian one"
abbrev pub string_tag : Order → ℕ
string_tag LowFirst = 32
string_tag HighFirst = 33

abbrev pub is_string_tag : ℕ → Bool
is_string_tag t = eqb t 32 || eqb t 33

-- the order that a string section's tag says
abbrev pub tag_order : ℕ → Order
tag_order t = cond (eqb t 33) HighFirst LowFirst

-- "a field of tag 127 that carries it on"
abbrev pub carry_tag : ℕ
carry_tag = 127

abbrev pub is_carry : ℕ → Bool
is_carry t = eqb t carry_tag

-- 50: "a tag other than 1 to 19, 32, 33 and 127"
unfoldable pub is_tag : ℕ → Bool
is_tag t = known t || is_string_tag t || is_carry t

-- ── writing ──

-- "one byte of tag, two bytes of length, low byte first, then the body"
abbrev pub field : ℕ → List ℕ → List ℕ
field tag body = tag ∷ length body % 256 ∷ length body / 256 ∷ body

-- the most bytes of a field: "a body of exactly 65,535 bytes is followed by" another
abbrev pub field_most : ℕ
field_most = 65535

-- a body in as many fields as it takes, of which so many more may follow
abbrev pub fields_in : ℕ → ℕ → List ℕ → List ℕ
fields_in zero tag body = field tag body
fields_in (suc more) tag body =
    cond (ltb (length body) field_most) (field tag body) (field tag (take field_most body) ++ fields_in more carry_tag (drop field_most body))

unfoldable pub body_fields : ℕ → List ℕ → List ℕ
body_fields tag body = fields_in (length body) tag body

-- how long that is
abbrev pub fields_length : ℕ → ℕ
fields_length n = n + 3 * (n / field_most + 1)

module _ (order : Order) where
  -- "its tag the kind, its body the record"
  unfoldable pub record_field : Record → List ℕ
  record_field r = body_fields (kind_of r) (bytes_of_words order (words_of r))

  -- "then one field for each record"
  abbrev pub record_fields : List Record → List ℕ
  record_fields [] = []
  record_fields (r ∷ rs) = record_field r ++ record_fields rs

  -- the string section "comes first"
  unfoldable pub list_of : Table → List ℕ
  list_of T = body_fields (string_tag order) T.strings ++ record_fields T.records

-- ── reading ──

-- what some bytes begin with: a refusal's number, or a tag and its body, and the bytes behind
pub data Taken : Type 0 where
  fault : ℕ → Taken
  taken : ℕ → List ℕ → List ℕ → Taken

abbrev pub on_taken : Taken → (ℕ → List ℕ → List ℕ → Taken) → Taken
on_taken (fault n) next = fault n
on_taken (taken tag body rest) next = next tag body rest

-- 51: "a field cut short"
abbrev pub behind_tag : ℕ → List ℕ → Taken
behind_tag tag [] = fault 51
behind_tag tag (a ∷ []) = fault 51
behind_tag tag (a ∷ b ∷ s) = cond (leb (a + b * 256) (length s)) (taken tag (take (a + b * 256) s) (drop (a + b * 256) s)) (fault 51)

-- one field: 50, then 51; "an empty list, or an end where 127 is due, is 51"
abbrev pub take_field : List ℕ → Taken
take_field [] = fault 51
take_field (tag ∷ s) = cond (is_tag tag) (behind_tag tag s) (fault 50)

-- a body goes on behind a field of the most bytes; 52: "a field out of its place"
abbrev pub carried : ℕ → ℕ → List ℕ → List ℕ → List ℕ → Taken
carried zero tag before body rest = taken tag (before ++ body) rest
carried (suc more) tag before body rest =
    cond (ltb (length body) field_most) (taken tag (before ++ body) rest)
    (on_taken (take_field rest)
    (λ (t : ℕ) (next : List ℕ) (behind : List ℕ). cond (is_carry t) (carried more tag (before ++ body) next behind) (fault 52)))

-- a whole body whose first tag is one that may stand here
unfoldable pub take_body : (ℕ → Bool) → List ℕ → Taken
take_body here s =
    on_taken (take_field s) (λ (tag : ℕ) (body : List ℕ) (rest : List ℕ). cond (here tag) (carried (length s) tag [] body rest) (fault 52))

-- "one whole record of its tag's kind"
abbrev pub only_one : ℕ → Walked → Option Record
only_one tag (records []) = none
only_one tag (records (r ∷ [])) = cond (eqb (kind_of r) tag) (some r) none
only_one tag (records (r ∷ q ∷ rs)) = none
only_one tag (stopped n t p) = none

unfoldable pub record_of : Order → ℕ → List ℕ → Option Record
record_of order tag body = cond (eqb (length body % 4) 0) (only_one tag (walk_from 1 1 0 (words order body))) none

-- what a list is read as: a refusal's number, or the order and the table
pub data Listed : Type 0 where
  unread : ℕ → Listed
  table : Order → Table → Listed

pub data RecordsRead : Type 0 where
  stop : ℕ → RecordsRead
  all : List Record → RecordsRead

abbrev pub in_front : Option Record → RecordsRead → RecordsRead
in_front none rest = stop 52
in_front (some r) (stop n) = stop n
in_front (some r) (all rs) = all (r ∷ rs)

abbrev pub on_body : Taken → (ℕ → List ℕ → List ℕ → RecordsRead) → RecordsRead
on_body (fault n) next = stop n
on_body (taken tag body rest) next = next tag body rest

-- the records, of which so many more may follow: none where no byte is left
abbrev pub read_records : ℕ → Order → List ℕ → RecordsRead
read_records zero order s = all []
read_records (suc more) order [] = all []
read_records (suc more) order (x ∷ s) =
    on_body (take_body known (x ∷ s))
    (λ (tag : ℕ) (body : List ℕ) (rest : List ℕ). in_front (record_of order tag body) (read_records more order rest))

abbrev pub with_strings : Order → List ℕ → RecordsRead → Listed
with_strings order strings (stop n) = unread n
with_strings order strings (all rs) = table order (record { records = rs; strings = strings })

abbrev pub on_strings : Taken → Listed
on_strings (fault n) = unread n
on_strings (taken tag body rest) = with_strings (tag_order tag) body (read_records (length rest) (tag_order tag) rest)

unfoldable pub read_list : List ℕ → Listed
read_list s = on_strings (take_body is_string_tag s)
