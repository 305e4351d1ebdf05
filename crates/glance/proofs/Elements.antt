-- Laws of a look at an ARRAY, by what is read of it.
-- Assumes nothing.
use Prim.Native.Nat.{ℕ, ◌+◌, ◌*◌, ◌/◌, ◌%◌}
use native.Mathlib.Omega.{arith}
use mathlib.Core.Path.{◌≡◌, refl, sym, ap, ◌∙◌}
use mathlib.Core.Bool.{Bool, true, false, not}
use mathlib.Core.List.{List}
use mathlib.Core.Logic.{◌⊎◌, inl, inr, ⊎_elim}
use borrow.Author.Tests.{ne_eqb, not-false}
use lib.Dec.{eqb}
use lib.ListN.{get_or}
use Rattle.glance.specs.Glance.{whole, integer, integer_alias, enumerated, is_sized, state_of, Stated, element_type_of, array_size, waiting_kinds, Looks, array}
use Rattle.paper.specs.declared.Order.{Order}
use Rattle.paper.specs.rules.Choice.{member}
use Rattle.paper.specs.rules.Kind.{rows, row_of}
use Rattle.paper.specs.rules.KindNo.{ARRAY}
use Rattle.paper.specs.rules.Table.{Record, kind_of}
use Rattle.paper.specs.rules.Word.{word_at}
use Rattle.paper.specs.terms.Reading.{record_in}
use Rattle.rows.proofs.RecordWords.{once-read, element-read, index_read}

-- ── a state of a plain type that has a size ──

module _ {class : ℕ} where
  pub sized-whole : class ≡ whole → true ≡ is_sized class
  sized-whole e = sym (ap is_sized e)

  pub sized-integer : class ≡ integer → true ≡ is_sized class
  sized-integer e = sym (ap is_sized e)

  pub sized-alias : class ≡ integer_alias → true ≡ is_sized class
  sized-alias e = sym (ap is_sized e)

  pub sized-other : (class ≡ whole → ⊥) → (class ≡ integer → ⊥) → (class ≡ integer_alias → ⊥) → eqb class enumerated ≡ is_sized class
  sized-other a b c = sym (rw (ne_eqb class integer b, ne_eqb class integer_alias c, ne_eqb class whole a) refl)

-- ── the record ──

pub array-waits : {k : ℕ} → k ≡ ARRAY → member k waiting_kinds ≡ true
array-waits e = ap (λ (k : ℕ). member k waiting_kinds) e

module _ (order : Order) (s : List ℕ) (work : List ℕ) where
  abbrev r : Record
  r = record_in order s

  count-read : kind_of r ≡ ARRAY → {w : ℕ} → w ≡ word_at order s 20 → w ≡ get_or r.tail 2 0
  unfolding row_of rows
  count-read e d = once-read order s ARRAY 2 e (omega arith) d

  pub looks-array : kind_of r ≡ ARRAY → {n i v e x : ℕ} → n ≡ word_at order s 20 → i ≡ word_at order s 16 → v ≡ state_of work i → v % 16 ≡ integer
      → e ≡ word_at order s 12 → x ≡ state_of work e → {y : Bool} → y ≡ is_sized (x % 16) → not y ≡ false
      → {q : ℕ} → Stated (n * (x / 16)) whole q → (q ≡ 0) ⊎ Looks work r q
  looks-array kind {n} {i} {v} {e} {x} count index by class element of {y} d ok h =
      ⊎_elim (λ e. inl e)
      (λ k. inr (array kind (sym (ap (λ (s : ℕ). is_sized (s % 16)) state) ∙ sym d ∙ not-false y ok)
      (sym (ap (λ (s : ℕ). s % 16) (by ∙ ap (state_of work) (index_read order s kind index))) ∙ class) (omega (arith, size, k.0))
      (k.1 ∙ ap (λ (z : ℕ). 16 * z + whole) size)))
      h
    where
      state : x ≡ state_of work (element_type_of r)
      state = of ∙ ap (state_of work) (element-read order s kind element)

      size : n * (x / 16) ≡ array_size work r
      size = λ i. count-read kind count i * (state i / 16)
