-- Laws of the code's table: a row by its kind, and a column of it.
-- Assumes nothing.
use Prim.Native.Nat.{ℕ, zero, suc, ◌/◌, ◌%◌, ◌≤◌}
use mathlib.Core.Path.{◌≡◌, refl, sym, ap, ◌∙◌}
use mathlib.Core.Bool.{Bool, true, false}
use mathlib.Core.List.{List, map}
use native.Mathlib.Omega.{arith}
use borrow.Author.Tests.{eqb-true, eqb-false, leb-true, leb-false, ltb-true, ltb-false}
use lib.Dec.{eqb, leb, ltb}
use lib.ListN.{get_or, get_or-map, get_or-eq_default}
use Rattle.paper.specs.rules.Kind.{Row, rows, row_of}

-- ── a row by its kind ──

-- what a function makes of the row of a kind that is known by its number
pub row_at : (f : Row → ℕ) (j : ℕ) {k : ℕ} → k ≡ j → f (row_of j) ≡ f (row_of k)
row_at f j e = sym (ap (λ (k : ℕ). f (row_of k)) e)

-- a kind that is none of 1 to n, as a match tells it
abbrev pub NoneTo : ℕ → ℕ → Type 0
NoneTo zero k = Unit {0}
NoneTo (suc n) k = NoneTo n k × (k ≡ suc n → ⊥)

none_inside : (n k : ℕ) → NoneTo n k → 1 ≤ k → k ≤ n → ⊥
none_inside zero k h low high = omega arith
none_inside (suc n) k h low high = go (eqb k (suc n)) refl (none_inside n k h.0 low)
  where
    go : (t : Bool) → eqb k (suc n) ≡ t → (k ≤ n → ⊥) → ⊥
    go true e before = h.1 (eqb-true k (suc n) e)
    go false e before = before (below (leb k n) refl)
      where
        below : (t : Bool) → leb k n ≡ t → k ≤ n
        below true l = leb-true k n l
        below false l = absurd (eqb-false k (suc n) e (let more = leb-false k n l in omega arith))

-- any other kind has the row of no kind
pub row-unknown : (f : Row → ℕ) (k : ℕ) → NoneTo 19 k → f (row_of 0) ≡ f (row_of k)
unfolding row_of rows
row-unknown f k h = go k h (ltb 19 k) refl
  where
    go : (k : ℕ) → NoneTo 19 k → (t : Bool) → ltb 19 k ≡ t → f (row_of 0) ≡ f (row_of k)
    go k h true l = ap f (sym (get_or-eq_default rows _ (ltb-true 19 k l)))
    go zero h false l = refl
    go (suc k) h false l = absurd (none_inside 19 (suc k) h (omega arith) (ltb-false 19 (suc k) l))

-- ── a column ──

-- what two functions make of the twenty rows, computed once, they make of the row of any kind
pub row_of-agree : {A : Type 0} (f g : Row → A) → map f rows ≡ map g rows → (k : ℕ) → f (row_of k) ≡ g (row_of k)
unfolding row_of rows
row_of-agree f g e k =
    sym (get_or-map f rows k (row_of 0))
    ∙ ap (λ (xs : List _). get_or xs k (get_or xs 0 (f (row_of 0)))) e
    ∙ get_or-map g rows k (row_of 0)

-- so a column of the code's rows is that of the definition's
pub column-is : (row cell : Row → ℕ) (unit : ℕ) → map (λ (r : Row). row r / unit % 256) rows ≡ map cell rows → (k : ℕ) {w c : ℕ}
    → w ≡ row (row_of k) → c ≡ w / unit % 256 → c ≡ cell (row_of k)
column-is row cell unit e k p q =
    q ∙ ap (λ (w : ℕ). w / unit % 256) p ∙ row_of-agree (λ (r : Row). row r / unit % 256) cell e k
