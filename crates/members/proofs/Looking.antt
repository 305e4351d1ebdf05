-- Laws of `sought_at` as code asks it: 35, then 21, then what the table that the index shows says.
-- Assumes nothing.
use Prim.Native.Nat.{ℕ}
use mathlib.Core.Path.{◌≡◌, sym, ap, ap₂, ◌∙◌}
use mathlib.Core.Bool.{Bool, true, false, cond}
use mathlib.Core.List.{List, []}
use Rattle.members.specs.Looked.{places_in, shown_in, placeless, sought_at}
use Rattle.paper.specs.rules.Header.{order_of}
use Rattle.paper.specs.rules.Table.{record_at}
use Rattle.paper.specs.rules.Word.{same_order}
use Rattle.paper.specs.declared.Order.{Order}
use Rattle.paper.specs.declared.Order.TheVariants.{LowFirst, HighFirst}
use Rattle.values.specs.Given.{Finding}
use Rattle.values.specs.Sought.{no_span, sought_in}
use Rattle.views.specs.Shown.{table_by}

module _ (b index : List ℕ) (t m : ℕ) where
  -- by the two tests
  abbrev asked : Bool → Bool → Finding
  asked high lost = cond high (no_span 35 0) (cond lost (no_span 21 0) (sought_in (shown_in b index) (record_at (shown_in b index) t) m))

  pub looked-35 : {f : Finding} → order_of b ≡ HighFirst → f ≡ no_span 35 0 → f ≡ sought_at b index t m
  unfolding sought_at
  looked-35 o d = d ∙ sym (ap (λ (x : Order). asked (same_order x HighFirst) (placeless index t)) o)

  module _ (o : order_of b ≡ LowFirst) {x : Bool} (test : x ≡ placeless index t) where
    pub looked-21 : {f : Finding} → x ≡ true → f ≡ no_span 21 0 → f ≡ sought_at b index t m
    unfolding sought_at
    looked-21 e d = d ∙ sym (ap₂ (λ (x : Order) (y : Bool). asked (same_order x HighFirst) y) o (sym test ∙ e))

    pub looked-in : {f : Finding} → x ≡ false → {n : ℕ} → n ≡ places_in index → {order : Order} → order ≡ order_of b
        → let T = table_by [] b index (record { n = n; order = order; before = 0 }) in f ≡ sought_in T (record_at T t) m
        → f ≡ sought_at b index t m
    unfolding sought_at
    looked-in e places order d =
        d
        ∙ (λ i. let T = table_by [] b index (record { n = places i; order = order i; before = 0 }) in sought_in T (record_at T t) m)
        ∙ sym (ap₂ (λ (x : Order) (y : Bool). asked (same_order x HighFirst) y) o (sym test ∙ e))
