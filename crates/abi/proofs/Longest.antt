-- What include/scrieve.h says of lengths: 311,284 bytes hold the list of any accepted table, and a table is at most 21 bytes longer than its list.
-- Assumes nothing.
use Prim.Native.Nat.{ℕ, ◌+◌, ◌*◌, ◌/◌, ◌≤◌}
use mathlib.Core.Path.{◌≡◌, ap}
use mathlib.Core.List.{List, [], ◌∷◌}
use mathlib.Core.Option.{none}
use native.Mathlib.Omega.{arith}
use lib.ListN.{length, length-append}
use Rattle.list.proofs.Walking.{length-record_field}
use Rattle.lists.proofs.Lengths.{length-body_fields}
use Rattle.lists.proofs.OneReading.{read_list-one}
use Rattle.lists.specs.Kept.{list_in}
use Rattle.lists.specs.List.{body_fields, field_most, list_of, read_list, record_field, record_fields, string_tag, table}
use Rattle.paper.proofs.bytes.Tables.{length-bytes_of}
use Rattle.paper.proofs.gates.Acceptance.{accepted-meets, accepted-short}
use Rattle.paper.specs.declared.Order.{Order}
use Rattle.paper.specs.rules.Gate.{refusal}
use Rattle.paper.specs.rules.Header.{order_of}
use Rattle.paper.specs.rules.Table.{Record, Table, count, words_of}
use Rattle.paper.specs.rules.Walk.{bytes_of, flat, table_of, type_len_of}
use Rattle.paper.specs.terms.Fit.{Bytes}

-- the fields of some records: a head for each, and for each that carries a body on, of which there is one at most for 65,535 bytes
record Fielded (order : Order) (rs : List Record) : Type 0 where
  carried : ℕ
  long : length (record_fields order rs) ≡ type_len_of rs + 3 * (length rs + carried)
  most : field_most * carried ≤ type_len_of rs

fielded : (order : Order) (rs : List Record) → Fielded order rs
fielded order [] = record { carried = 0; long = omega arith; most = omega arith }
fielded order (r ∷ rs) =
    let f = fielded order rs in
    let l = length-append (record_field order r) (record_fields order rs) in
    let w = length-append (words_of r) (flat rs) in
    let h = length-record_field order r in
    record {
      carried = 4 * length (words_of r) / field_most + f.carried;
      long = omega (arith, l, w, h, f.long);
      most = omega (arith, w, f.most);
    }

-- the string section's fields and the records'
record Long (order : Order) (T : Table) : Type 0 where
  carried : ℕ
  long : length (list_of order T) ≡ type_len_of T.records + length T.strings + 3 * (count T + 1 + carried)
  most : field_most * carried ≤ type_len_of T.records + length T.strings

list-long : (order : Order) (T : Table) → Long order T
unfolding list_of
list-long order T =
    let f = fielded order T.records in
    let s = length-body_fields (string_tag order) T.strings in
    let l = length-append (body_fields (string_tag order) T.strings) (record_fields order T.records) in
    record {
      carried = length T.strings / field_most + f.carried;
      long = omega (arith, l, s, f.long);
      most = omega (arith, f.most);
    }

pub list-longest : (b : List ℕ) (places work : ℕ) → refusal b places work ≡ none → Bytes b → length (list_in b) ≤ 311284
unfolding list_in
list-longest b places work accepted bytes =
    let l = list-long (order_of b) (table_of b) in
    let few = (accepted-meets b places work accepted).readable.section.few_found in
    omega (arith, l.long, l.most, few, accepted-short b places work accepted bytes)

pub made-longest : (s : List ℕ) → Bytes s → {order : Order} {T : Table} → read_list s ≡ table order T → length (bytes_of order T) ≤ length s + 21
made-longest s bytes {order} {T} e =
    let l = list-long order T in
    omega (arith, l.long, ap length (read_list-one s bytes e).is, length-bytes_of order T)
