-- Laws of a look at a VAR, by what is read of it.
-- Assumes nothing.
use Prim.Native.Nat.{ℕ, ◌+◌, ◌*◌, ◌/◌, ◌%◌}
use mathlib.Core.Path.{◌≡◌, refl, sym, ap, ◌∙◌}
use mathlib.Core.Bool.{Bool, false, not}
use mathlib.Core.List.{List}
use borrow.Author.Tests.{not-false}
use Rattle.glance.specs.Glance.{is_sized, stored, state_of, Looks, variable}
use Rattle.paper.specs.declared.Order.{Order}
use Rattle.paper.specs.rules.KindNo.{VAR}
use Rattle.paper.specs.rules.Table.{Record, kind_of}
use Rattle.paper.specs.rules.Word.{word_at}
use Rattle.paper.specs.terms.Reading.{record_in}
use Rattle.rows.proofs.RecordWords.{third-read}

module _ (order : Order) (s : List ℕ) (work : List ℕ) where
  abbrev r : Record
  r = record_in order s

  pub looks-variable : kind_of r ≡ VAR → {u x : ℕ} → u ≡ word_at order s 8 → x ≡ state_of work u → {y : Bool} → y ≡ is_sized (x % 16) → not y ≡ false
      → Looks work r (16 * (x / 16) + stored)
  looks-variable kind {u} {x} third of {y} d ok =
      variable kind (sym (ap (λ (s : ℕ). is_sized (s % 16)) state) ∙ sym d ∙ not-false y ok) (ap (λ (s : ℕ). 16 * (s / 16) + stored) state)
    where
      state : x ≡ state_of work r.third
      state = of ∙ ap (state_of work) (third-read order s refl third)
