-- What the functions that take a list's fields answer, in the terms of the definitions.
use Rattle.std.specs.Prelude.{ℕ, ◌+◌, ◌*◌, ◌≤◌, ◌≡◌, Bool, true, false, List, [], length, take, drop, Result, Ok, Err}
use Rattle.std.proofs.Math.Option.{some}
use Rattle.taking.specs.declared.bodies.Body.{Body}
use Rattle.taking.specs.declared.one.Field.{Field}
use Rattle.lists.specs.declared.Fault.{Fault}
use Rattle.lists.specs.Kept.{fault_number}
use Rattle.lists.specs.List.{field_most, is_string_tag, fault, taken, take_field, carried, take_body, RecordsRead, stop, in_front, on_body, record_of}
use Rattle.lists.specs.List as list
use Rattle.paper.specs.declared.Order.{Order}
use Rattle.paper.specs.rules.Table.{Record, words_of}
use Rattle.paper.specs.rules.Walk.{known}

-- ── a field ──

abbrev pub field_as : Result Field Fault → List ℕ → list.Taken
field_as (Err f) s = fault (fault_number f)
field_as (Ok f) s = taken f.tag (take f.len (drop 3 s)) (drop (3 + f.len) s)

abbrev pub field_length : Result Field Fault → ℕ
field_length (Err f) = 0
field_length (Ok f) = f.len

abbrev pub field_end : Result Field Fault → ℕ
field_end (Err f) = 0
field_end (Ok f) = 3 + f.len

pub record FieldOf (r : Result Field Fault) (s : List ℕ) : Type 0 where
  pub is : take_field s ≡ field_as r s
  pub few : field_length r ≤ field_most
  pub inside : field_end r ≤ length s

-- ── a body ──

-- the tags that may stand here
abbrev pub stands_as : Bool → ℕ → Bool
stands_as true tag = is_string_tag tag
stands_as false tag = known tag

-- a body of so many bytes that was taken, whose last field ends here
pub record BodyIn (x : list.Taken) (s : List ℕ) (tag len end : ℕ) : Type 0 where
  pub whole : List ℕ
  pub is : x ≡ taken tag whole (drop end s)
  pub long : length whole ≡ len
  pub inside : end ≤ length s
  pub above : 3 + len ≤ end

abbrev pub BodyAs : Result Body Fault → list.Taken → List ℕ → Type 0
BodyAs (Err f) x s = x ≡ fault (fault_number f)
BodyAs (Ok b) x s = BodyIn x s b.tag b.len b.end

-- what is taken where the first field has this tag and so many bytes
abbrev pub carried_from : List ℕ → ℕ → ℕ → list.Taken
carried_from s tag first = carried (length s) tag [] (take first (drop 3 s)) (drop (3 + first) s)

pub record CarryAsk (s : List ℕ) (first : ℕ) : Type 0 where
  pub few : first ≤ field_most
  pub inside : 3 + first ≤ length s

-- ── a record ──

-- a record in front of what is read of the bytes behind it
abbrev pub record_then : Order → (List ℕ → RecordsRead) → List ℕ → RecordsRead
record_then order next s =
    on_body (take_body known s) (λ (tag : ℕ) (whole : List ℕ) (rest : List ℕ). in_front (record_of order tag whole) (next rest))

-- whatever is read behind it
pub record RecordBad (order : Order) (s : List ℕ) (n : ℕ) : Type 0 where
  pub is : (next : List ℕ → RecordsRead) → record_then order next s ≡ stop n

pub record RecordIn (order : Order) (s : List ℕ) (len end : ℕ) : Type 0 where
  pub it : Record
  pub is : (next : List ℕ → RecordsRead) → record_then order next s ≡ in_front (some it) (next (drop end s))
  pub long : 4 * length (words_of it) ≡ len
  pub inside : end ≤ length s
  pub above : 3 + len ≤ end

abbrev pub RecordAs : Result Body Fault → Order → List ℕ → Type 0
RecordAs (Err f) order s = RecordBad order s (fault_number f)
RecordAs (Ok b) order s = RecordIn order s b.len b.end
