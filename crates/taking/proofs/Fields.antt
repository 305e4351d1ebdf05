-- Laws of one field, by what is tested of its bytes.
-- Assumes nothing.
use Prim.Native.Nat.{ℕ, suc, ◌+◌, ◌-◌, ◌*◌, ◌≤◌, ◌<◌}
use mathlib.Core.Path.{◌≡◌, refl, sym, ap, ◌∙◌}
use mathlib.Core.Bool.{Bool, true, false, cond}
use mathlib.Core.List.{List, [], ◌∷◌}
use native.Mathlib.Omega.{arith}
use borrow.Author.Tests.{le-leb, lt-leb}
use lib.Dec.{leb}
use lib.ListN.{length, get_or, take, drop}
use Rattle.lists.specs.Kept.{fault_number}
use Rattle.lists.specs.List.{is_string_tag, is_tag, fault, taken, behind_tag, take_field}
use Rattle.lists.specs.declared.Fault.TheVariants.{UnknownTag, CutShort}
use Rattle.paper.specs.rules.Walk.{known}
use Rattle.paper.specs.terms.Fit.{Bytes}
use Rattle.taking.specs.Taking.{FieldOf, stands_as}
use Rattle.std.specs.Prelude.{Ok, Err}

-- ── its tag ──

-- which of them may stand here
pub stands-strings : {b : Bool} → b ≡ true → (t : ℕ) {r : Bool} → r ≡ is_string_tag t → r ≡ stands_as b t
stands-strings e t f = f ∙ sym (ap (λ (b : Bool). stands_as b t) e)

pub stands-kind : {b : Bool} → b ≡ false → (t : ℕ) {r : Bool} → r ≡ known t → r ≡ stands_as b t
stands-kind e t f = f ∙ sym (ap (λ (b : Bool). stands_as b t) e)

-- ── the field ──

by-tag : (t : ℕ) (s : List ℕ) {z : Bool} → is_tag t ≡ z → take_field (t ∷ s) ≡ cond z (behind_tag t s) (fault 50)
by-tag t s e = ap (λ (z : Bool). cond z (behind_tag t s) (fault 50)) e

by_length : (t a b : ℕ) (s : List ℕ) {z : Bool} → is_tag t ≡ true → leb (a + b * 256) (length s) ≡ z
    → take_field (t ∷ a ∷ b ∷ s) ≡ cond z (taken t (take (a + b * 256) s) (drop (a + b * 256) s)) (fault 51)
by_length t a b s e x = by-tag t (a ∷ b ∷ s) e ∙ ap (λ (z : Bool). cond z (taken t (take (a + b * 256) s) (drop (a + b * 256) s)) (fault 51)) x

pub field-none : (s : List ℕ) → length s ≡ 0 → FieldOf (Err CutShort) s
unfolding fault_number
field-none [] h = record { is = refl; few = omega arith; inside = omega arith }
field-none (t ∷ s) h = absurd (omega arith)

pub field-unknown : (s : List ℕ) → 0 < length s → is_tag (get_or s 0 0) ≡ false → FieldOf (Err UnknownTag) s
unfolding fault_number
field-unknown [] h e = absurd (omega arith)
field-unknown (t ∷ s) h e = record { is = by-tag t s e; few = omega arith; inside = omega arith }

pub field-headless : (s : List ℕ) → 0 < length s → is_tag (get_or s 0 0) ≡ true → length s < 3 → FieldOf (Err CutShort) s
unfolding fault_number
field-headless [] h e l = absurd (omega arith)
field-headless (t ∷ []) h e l = record { is = by-tag t [] e; few = omega arith; inside = omega arith }
field-headless (t ∷ a ∷ []) h e l = record { is = by-tag t (a ∷ []) e; few = omega arith; inside = omega arith }
field-headless (t ∷ a ∷ b ∷ s) h e l = absurd (omega arith)

pub field_cut : (s : List ℕ) → is_tag (get_or s 0 0) ≡ true → 3 ≤ length s → length s - 3 < get_or s 1 0 + get_or s 2 0 * 256 → FieldOf (Err CutShort) s
unfolding fault_number
field_cut [] e l h = absurd (omega arith)
field_cut (t ∷ []) e l h = absurd (omega arith)
field_cut (t ∷ a ∷ []) e l h = absurd (omega arith)
field_cut (t ∷ a ∷ b ∷ s) e l h = record { is = by_length t a b s e (lt-leb (a + b * 256) (length s) (omega arith)); few = omega arith; inside = omega arith }

pub field-whole : (s : List ℕ) → Bytes s → is_tag (get_or s 0 0) ≡ true → 3 ≤ length s → get_or s 1 0 + get_or s 2 0 * 256 ≤ length s - 3
    → FieldOf (Ok (record { tag = get_or s 0 0; len = get_or s 1 0 + get_or s 2 0 * 256 })) s
field-whole [] bytes e l h = absurd (omega arith)
field-whole (t ∷ []) bytes e l h = absurd (omega arith)
field-whole (t ∷ a ∷ []) bytes e l h = absurd (omega arith)
field-whole (t ∷ a ∷ b ∷ s) bytes e l h =
    let low = bytes.1.0 in
    let high = bytes.1.1.0 in
    record {
      is = by_length t a b s e (le-leb (a + b * 256) (length s) (omega arith)) ∙ ap (taken t (take (a + b * 256) s)) (behind (a + b * 256));
      few = omega arith;
      inside = omega arith;
    }
  where
    behind : (n : ℕ) → drop n s ≡ drop (3 + n) (t ∷ a ∷ b ∷ s)
    behind n = let three : 3 + n ≡ suc (suc (suc n)) = omega arith in ap (λ (k : ℕ). drop k (t ∷ a ∷ b ∷ s)) (sym three)
