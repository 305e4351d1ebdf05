-- Laws of names that stand as those of a struct's members do: of a member's words the first alone is a name.
-- Assumes nothing.
use Prim.Native.Nat.{ℕ, ◌+◌, ◌<◌}
use mathlib.Core.Path.{◌≡◌, refl, sym, ap, ◌∙◌}
use mathlib.Core.Bool.{Bool, false, not}
use mathlib.Core.List.{List}
use Rattle.pairs.specs.Lean.{name_word_over}
use Rattle.paper.proofs.basics.Choices.{and-nothing}
use Rattle.paper.specs.declared.Order.{Order}
use Rattle.paper.specs.rules.Kind.{names, offset0_or_identifier, row_of, rows}
use Rattle.paper.specs.rules.KindNo.{STRUCT}
use Rattle.paper.specs.rules.Word.{word_at}
use Rattle.paper.specs.terms.Reading.{roled}
use Rattle.rows.proofs.ByRole.{Entering, entering-next}

module _ (order : Order) (base strings s : List ℕ) (p : ℕ) where
  -- of a member's words the first alone is a name
  pub member-name : {t : Bool} {w : ℕ} → w ≡ word_at order s p → t ≡ name_word_over base strings (names offset0_or_identifier) w
      → t ≡ roled order (name_word_over base strings) s p (row_of STRUCT).each
  unfolding roled row_of rows
  member-name read e = e ∙ ap (name_word_over base strings (names offset0_or_identifier)) read ∙ sym (and-nothing _)

  -- and it has three words
  pub member-next : {from n i q : ℕ} → Entering order (name_word_over base strings) s (row_of STRUCT).each from n p i → i < n → {t : Bool}
      → t ≡ roled order (name_word_over base strings) s p (row_of STRUCT).each → not t ≡ false → q ≡ p + 12
      → Entering order (name_word_over base strings) s (row_of STRUCT).each from n q (i + 1)
  unfolding row_of rows
  member-next here some entry e next = entering-next here some entry e {w = 3} refl next
