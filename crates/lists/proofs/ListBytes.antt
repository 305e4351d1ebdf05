-- A list is bytes, where the table's strings are and its kinds are known.
-- Assumes nothing.
use Prim.Native.Nat.{ℕ, zero, suc, ◌+◌, ◌≤◌, ◌<◌}
use mathlib.Core.Bool.{Bool, true, false, cond}
use mathlib.Core.List.{List, [], ◌∷◌, ◌++◌}
use mathlib.Core.Path.{◌≡◌, refl}
use native.Mathlib.Omega.{arith}
use borrow.Author.Tests.{leb-true, ltb-true, ltb-false}
use lib.Dec.{leb, ltb}
use lib.ListN.{length, take, drop, length-drop}
use lib.Seq.{length-take-le}
use Rattle.lists.specs.List.{string_tag, carry_tag, field, field_most, fields_in, body_fields, record_field, record_fields, list_of}
use Rattle.paper.proofs.basics.Choices.{and_right}
use Rattle.paper.proofs.bytes.Bytes.{below-append, below-drop, below-take, bytes-bytes_of_words}
use Rattle.paper.specs.declared.Order.{Order}
use Rattle.paper.specs.declared.Order.TheVariants.{LowFirst, HighFirst}
use Rattle.paper.specs.rules.KindNo.{INT, ENUM64}
use Rattle.paper.specs.rules.Table.{Record, Table, kind_of, words_of}
use Rattle.paper.specs.rules.Walk.{known}
use Rattle.paper.specs.rules.Word.{bytes_of_words}
use Rattle.paper.specs.terms.Fit.{Bytes, EveryWhole}

field-bytes : (tag : ℕ) (body : List ℕ) → tag < 256 → length body ≤ field_most → Bytes body → Bytes (field tag body)
field-bytes tag body small few bytes = (small, (omega arith, (omega arith, bytes)))

fields_in-bytes : (k tag : ℕ) (body : List ℕ) → length body ≤ k → tag < 256 → Bytes body → Bytes (fields_in k tag body)
fields_in-bytes zero tag body room small bytes = field-bytes tag body small (omega arith) bytes
fields_in-bytes (suc k) tag body room small bytes =
    go (ltb (length body) field_most) refl
    (λ long. let d = length-drop field_most body in fields_in-bytes k carry_tag (drop field_most body) (omega arith) (omega arith) (below-drop 256 field_most body bytes))
  where
    go : (z : Bool) → ltb (length body) field_most ≡ z → (field_most ≤ length body → Bytes (fields_in k carry_tag (drop field_most body)))
        → Bytes (cond z (field tag body) (field tag (take field_most body) ++ fields_in k carry_tag (drop field_most body)))
    go true x later = let short = ltb-true (length body) field_most x in field-bytes tag body small (omega arith) bytes
    go false x later =
        let long = ltb-false (length body) field_most x in
        let full = length-take-le field_most body long in
        below-append 256 (field tag (take field_most body)) (fields_in k carry_tag (drop field_most body))
        (field-bytes tag (take field_most body) small (omega arith) (below-take 256 field_most body bytes)) (later long)

body_fields-bytes : (tag : ℕ) (body : List ℕ) → tag < 256 → Bytes body → Bytes (body_fields tag body)
unfolding body_fields
body_fields-bytes tag body small bytes = fields_in-bytes (length body) tag body (omega arith) small bytes

record_fields-bytes : (order : Order) (rs : List Record) → EveryWhole rs → Bytes (record_fields order rs)
unfolding record_field
record_fields-bytes order [] whole = tt
record_fields-bytes order (r ∷ rs) whole =
    let k = leb-true (kind_of r) ENUM64 (and_right (leb INT (kind_of r)) (leb (kind_of r) ENUM64) whole.0.known_kind) in
    below-append 256 (body_fields (kind_of r) (bytes_of_words order (words_of r))) (record_fields order rs)
    (body_fields-bytes (kind_of r) (bytes_of_words order (words_of r)) (omega arith) (bytes-bytes_of_words order (words_of r)))
    (record_fields-bytes order rs whole.1)

pub list_of-bytes : (order : Order) (T : Table) → EveryWhole T.records → Bytes T.strings → Bytes (list_of order T)
unfolding list_of
list_of-bytes order T whole strings =
    below-append 256 (body_fields (string_tag order) T.strings) (record_fields order T.records)
    (body_fields-bytes (string_tag order) T.strings (tag order) strings) (record_fields-bytes order T.records whole)
  where
    tag : (o : Order) → string_tag o < 256
    tag LowFirst = omega arith
    tag HighFirst = omega arith
