-- How long a list is: three bytes more for each field that a body takes.
-- Assumes nothing.
use Prim.Native.Nat.{ℕ, zero, suc, ◌+◌, ◌≤◌}
use mathlib.Core.Path.{◌≡◌, refl}
use mathlib.Core.Bool.{Bool, true, false, cond}
use mathlib.Core.List.{List, ◌++◌}
use native.Mathlib.Omega.{arith}
use borrow.Author.Tests.{ltb-true, ltb-false}
use lib.Dec.{ltb}
use lib.ListN.{length, take, drop, length-append, length-drop}
use lib.Seq.{length-take-le}
use Rattle.lists.specs.List.{carry_tag, field, field_most, fields_in, body_fields, fields_length}

length-fields_in : (k tag : ℕ) (body : List ℕ) → length body ≤ k → length (fields_in k tag body) ≡ fields_length (length body)
length-fields_in zero tag body room = omega arith
length-fields_in (suc k) tag body room =
    go (ltb (length body) field_most) refl (λ long. let d = length-drop field_most body in length-fields_in k carry_tag (drop field_most body) (omega arith))
  where
    go : (z : Bool) → ltb (length body) field_most ≡ z
        → (field_most ≤ length body → length (fields_in k carry_tag (drop field_most body)) ≡ fields_length (length (drop field_most body)))
        → length (cond z (field tag body) (field tag (take field_most body) ++ fields_in k carry_tag (drop field_most body))) ≡ fields_length (length body)
    go true x later = let short = ltb-true (length body) field_most x in omega arith
    go false x later =
        let long = ltb-false (length body) field_most x in
        let full = length-take-le field_most body long in
        let d = length-drop field_most body in
        let l = later long in
        let a = length-append (field tag (take field_most body)) (fields_in k carry_tag (drop field_most body)) in
        omega arith

pub length-body_fields : (tag : ℕ) (body : List ℕ) → length (body_fields tag body) ≡ fields_length (length body)
unfolding body_fields
length-body_fields tag body = length-fields_in (length body) tag body (omega arith)
