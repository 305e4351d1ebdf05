-- What a list comes to as a whole, in the terms of the definitions: the number at fault, or a table and how long its sections are.
use Rattle.lists.specs.declared.Fault.{Fault}
use Rattle.std.specs.Prelude.{ℕ, ◌+◌, ◌≤◌, ◌≡◌, List, length, Err, Ok, Result}
use Rattle.lists.specs.Kept.{fault_number}
use Rattle.lists.specs.List.{unread, table, stop, all, read_records, read_list}
use Rattle.paper.specs.declared.Order.{Order}
use Rattle.paper.specs.rules.Table.{Record, count}
use Rattle.paper.specs.rules.Table as paper
use Rattle.paper.specs.rules.Walk.{type_len_of}
use Rattle.taking.specs.declared.whole.Sections.{Sections}
use Rattle.totals.specs.declared.Totals.{Totals}

-- so many records of so many bytes, which are all that the list has room for
pub record RecordsIn (order : Order) (s : List ℕ) (t : Totals) : Type 0 where
  pub found : List Record
  pub is : read_records (length s) order s ≡ all found
  pub types : length found ≡ t.types
  pub bytes : type_len_of found ≡ t.bytes
  pub inside : t.bytes ≤ length s

abbrev pub CountedAs : Result Totals Fault → Order → List ℕ → Type 0
CountedAs (Err f) order s = read_records (length s) order s ≡ stop (fault_number f)
CountedAs (Ok t) order s = RecordsIn order s t

pub record TableIn (s : List ℕ) (x : Sections) : Type 0 where
  pub made : paper.Table
  pub reads : read_list s ≡ table x.order made
  pub strings : length made.strings ≡ x.strings
  pub types : count made ≡ x.records.types
  pub bytes : type_len_of made.records ≡ x.records.bytes
  pub inside : x.strings + x.records.bytes ≤ length s

abbrev pub MeasuredAs : Result Sections Fault → List ℕ → Type 0
MeasuredAs (Err f) s = read_list s ≡ unread (fault_number f)
MeasuredAs (Ok x) s = TableIn s x
