-- The record question, of a section alone: record y of part x, "its group's name offset, its place, its own bytes".
use Rattle.paper.specs.declared.NameOff.{NameOff}
use Rattle.paper.specs.declared.Place.{Place}
use Rattle.std.specs.Prelude.{ℕ, zero, suc, Bool, true, false, not, cond, List, [], ◌∷◌, take, drop, None, Option as RustOption, Some}
use Rattle.std.proofs.Math.Option.{Option, none, some}
use Rattle.exts.specs.Ext.{head_length_bad, parts_bad}
use Rattle.exts.specs.Items.{Entry, Item, broken, group, entry, Part, part_items, parts, items}
use Rattle.exts.specs.Sorts.{least_size}
use Rattle.paper.specs.rules.Answer.{Answer, report, report_at}
use Rattle.paper.specs.rules.Choice.{every}
use Rattle.paper.specs.rules.Header.{length_bad, opening_bad}

module _ {A : Type 0} where
  -- element k of a list, counted from 0
  abbrev pub nth : List A → ℕ → Option A
  nth [] k = none
  nth (x ∷ xs) zero = some x
  nth (x ∷ xs) (suc k) = nth xs k

-- parts are counted from 1
abbrev pub part_at : List Part → ℕ → Option Part
part_at xs zero = none
part_at xs (suc x) = nth xs x

-- the records among some items
abbrev pub entries_in : List Item → List Entry
entries_in [] = []
entries_in (broken n ∷ later) = entries_in later
entries_in (group name ∷ later) = entries_in later
entries_in (entry e ∷ later) = e ∷ entries_in later

abbrev pub unbroken : Item → Bool
unbroken (broken n) = false
unbroken (group name) = true
unbroken (entry e) = true

module _ (s : List ℕ) where
  -- "there is none where the section breaks 41, 43, 44, 45 or 46 anywhere or begins with neither order's four bytes"
  abbrev pub whole_tests : List Bool
  whole_tests =
      not (length_bad s)
      ∷ not (opening_bad s)
      ∷ not (head_length_bad s)
      ∷ not (parts_bad s)
      ∷ every unbroken (items s)
      ∷ []

  unfoldable pub is_whole : Bool
  is_whole = every (λ (passes : Bool). passes) whole_tests

  -- the records of a part
  abbrev pub entries_at : Option Part → List Entry
  entries_at none = []
  entries_at (some x) = entries_in (part_items s x)

  unfoldable pub part_entries : ℕ → List Entry
  part_entries x = entries_at (part_at (parts s) x)

  -- "or where the part has no such record"
  unfoldable pub record_asked : ℕ → ℕ → Option Entry
  record_asked x y = cond is_whole (nth (part_entries x) y) none

  -- "its own bytes": from its place on, as many as its sort's words take
  abbrev pub entry_bytes : Option Entry → List ℕ
  entry_bytes none = []
  entry_bytes (some e) = take (least_size e.sort) (drop e.place s)

abbrev pub entry_start : Option Entry → ℕ
entry_start none = 0
entry_start (some e) = e.place

-- the answer by its numbers: 0 with a group's name offset and a record's place, or 1 if there is none
unfoldable pub found_as_paper : RustOption (NameOff × Place) → Answer
found_as_paper (Some (name, place)) = report_at 0 name.0 place.0
found_as_paper None = report 1 0

abbrev pub entry_as_paper : Option Entry → Answer
entry_as_paper none = report 1 0
entry_as_paper (some e) = report_at 0 e.name e.place
