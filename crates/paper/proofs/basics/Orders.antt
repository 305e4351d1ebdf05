-- Laws of the byte orders: when two are the same.
-- Assumes nothing.
use mathlib.Core.Path.{◌≡◌, refl, sym, ap, ◌∙◌}
use mathlib.Core.Bool.{true, false, false≢true}
use Rattle.paper.specs.rules.Word.{same_order}
use Rattle.paper.specs.declared.Order.{Order}
use Rattle.paper.specs.declared.Order.TheVariants.{LowFirst, HighFirst}

pub same_order-true : (o p : Order) → same_order o p ≡ true → o ≡ p
same_order-true LowFirst LowFirst e = refl
same_order-true LowFirst HighFirst e = absurd (false≢true e)
same_order-true HighFirst LowFirst e = absurd (false≢true e)
same_order-true HighFirst HighFirst e = refl

same_order-refl : (o : Order) → same_order o o ≡ true
same_order-refl LowFirst = refl
same_order-refl HighFirst = refl

pub same_order-same : {o p : Order} → o ≡ p → same_order o p ≡ true
same_order-same {o} e = ap (same_order o) (sym e) ∙ same_order-refl o
