-- A whole list by its string section and the records behind it.
-- Assumes nothing.
use Rattle.std.specs.Prelude.{Err, Ok, Result}
use Rattle.taking.specs.declared.whole.Sections.{Sections}
use Rattle.lists.specs.declared.Fault.{Fault}
use Prim.Native.Nat.{ℕ, ◌-◌}
use mathlib.Core.Path.{◌≡◌, sym, ap, ◌∙◌}
use mathlib.Core.Bool.{Bool, true, cond}
use mathlib.Core.List.{List}
use native.Mathlib.Omega.{arith}
use borrow.Author.Tests.{eq-eqb, ne_eqb}
use lib.ListN.{length, take, drop, length-drop}
use Rattle.lists.proofs.OneReading.{unread≢table}
use Rattle.lists.proofs.Wrotes.{fault-one}
use Rattle.lists.specs.Kept.{fault_number}
use Rattle.lists.specs.List.{tag_order, fault, take_body, unread, table, RecordsRead, stop, read_records, with_strings, on_strings, read_list}
use Rattle.paper.proofs.bytes.Bytes.{part-rest}
use Rattle.paper.specs.declared.Order.{Order}
use Rattle.paper.specs.declared.Order.TheVariants.{HighFirst, LowFirst}
use Rattle.paper.specs.rules.Table.{count}
use Rattle.paper.specs.rules.Table as paper
use Rattle.paper.specs.rules.Walk.{type_len_of}
use Rattle.taking.specs.Measuring.{MeasuredAs, RecordsIn, TableIn}
use Rattle.taking.specs.Taking.{BodyIn, stands_as}
use Rattle.totals.specs.declared.Totals.{Totals}

pub tag-high : (t : ℕ) → t ≡ 33 → HighFirst ≡ tag_order t
tag-high t e = sym (ap (λ (z : Bool). cond z HighFirst LowFirst) (eq-eqb t 33 e))

pub tag-low : (t : ℕ) → (t ≡ 33 → ⊥) → LowFirst ≡ tag_order t
tag-low t other = sym (ap (λ (z : Bool). cond z HighFirst LowFirst) (ne_eqb t 33 other))

pub measured-bad : (s : List ℕ) (n : ℕ) → take_body (stands_as true) s ≡ fault n → read_list s ≡ unread n
unfolding read_list
measured-bad s n e = ap on_strings e

module _ {s : List ℕ} {tag len end : ℕ} (b : BodyIn (take_body (stands_as true) s) s tag len end) {order : Order} (o : order ≡ tag_order tag) where
  abbrev part : List ℕ
  part = take (length s - end) (drop end s)

  read-on : {q : RecordsRead} → read_records (length part) order part ≡ q → read_list s ≡ with_strings order b.whole q
  unfolding read_list
  read-on e =
      ap on_strings b.is
      ∙ ap (λ (x : Order). with_strings x b.whole (read_records (length (drop end s)) x (drop end s))) (sym o)
      ∙ ap (λ (u : List ℕ). with_strings order b.whole (read_records (length u) order u)) (sym (part-rest s end))
      ∙ ap (with_strings order b.whole) e

  pub measured-stop : (n : ℕ) → read_records (length part) order part ≡ stop n → read_list s ≡ unread n
  measured-stop n e = read-on e

  pub measured-table : {t : Totals} → RecordsIn order part t → TableIn s (record { order = order; strings = len; records = t })
  measured-table r =
      record {
        made = record { records = r.found; strings = b.whole };
        reads = read-on r.is;
        strings = b.long;
        types = r.types;
        bytes = r.bytes;
        inside = omega (arith, b.above, b.inside, r.inside, ap length (part-rest s end), length-drop end s);
      }

-- ── any two answers that the contract allows are the same ──

pub measure-one : (r q : Result Sections Fault) (s : List ℕ) → MeasuredAs r s → MeasuredAs q s → r ≡ q
measure-one (Err f) (Err g) s h k =
    let same : unread (fault_number f) ≡ unread (fault_number g) = sym h ∙ k in
    let numbers : fault_number f ≡ fault_number g = cc in
    ap Err (fault-one f g numbers)
measure-one (Err f) (Ok y) s h k = absurd (unread≢table (sym h ∙ k.reads))
measure-one (Ok x) (Err g) s h k = absurd (unread≢table (sym k ∙ h.reads))
measure-one (Ok x) (Ok y) s h k =
    let same : table x.order h.made ≡ table y.order k.made = sym h.reads ∙ k.reads in
    let orders : x.order ≡ y.order = cc in
    let tables : h.made ≡ k.made = cc in
    let strings = sym h.strings ∙ ap (λ (T : paper.Table). length T.strings) tables ∙ k.strings in
    let types = sym h.types ∙ ap count tables ∙ k.types in
    let bytes = sym h.bytes ∙ ap (λ (T : paper.Table). type_len_of T.records) tables ∙ k.bytes in
    λ i. Ok (record { order = orders i; strings = strings i; records = record { types = types i; bytes = bytes i } })
