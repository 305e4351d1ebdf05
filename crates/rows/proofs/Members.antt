-- Laws of the numbers that a head may hold: what a match on them tells, and which numbers each code stands for.
-- Assumes nothing.
use Prim.Native.Nat.{ℕ, zero, suc}
use mathlib.Core.Path.{◌≡◌, refl, sym, ap, ◌∙◌}
use mathlib.Core.Bool.{true, false}
use mathlib.Core.List.{List, [], ◌∷◌, map}
use mathlib.Core.Logic.{⊎_elim, inl, inr}
use native.Mathlib.Omega.{arith}
use borrow.Author.Tests.{eq-eqb, ne_eqb, lt-leb}
use types.Run.{OneOf}
use lib.Dec.{eqb, leb}
use Rattle.paper.specs.rules.Choice.{member}
use Rattle.paper.specs.rules.Heads.{allowed}
use Rattle.paper.specs.rules.Kind.{Row, Values, free, rows, row_of}
use Rattle.paper.proofs.basics.Choices.{or_left, or_right, false-or, or_nothing}
use Rattle.kindrows.specs.Codes.{values_of, values_code}
use Rattle.kindrows.proofs.Columns.{row_of-agree}

-- ── a match on numbers ──

-- where a number is one of the keys, it is a member of their list
pub member-key : (w k : ℕ) (ks : List ℕ) → OneOf (k ∷ ks) w → true ≡ member w (k ∷ ks)
member-key w k [] e = sym (or_left false (eq-eqb w k e))
member-key w k (j ∷ ks) s =
    ⊎_elim (λ e. sym (or_left (member w (j ∷ ks)) (eq-eqb w k e))) (λ t. sym (or_right (eqb w k) (sym (member-key w j ks t)))) s

-- and where it is none of them, it is not
pub member-no-key : (w k : ℕ) (ks : List ℕ) → (OneOf (k ∷ ks) w → ⊥) → false ≡ member w (k ∷ ks)
member-no-key w k [] h = sym (false-or (ne_eqb w k h) refl)
member-no-key w k (j ∷ ks) h =
    sym (false-or (ne_eqb w k (λ e. h (inl e))) (sym (member-no-key w j ks (λ t. h (inr t)))))

-- the one number
pub member-single : (w k : ℕ) → eqb w k ≡ member w (k ∷ [])
member-single w k = sym (or_nothing (eqb w k))

-- a FUNC's linkage is at most 1
pub member-func-linkage : (w : ℕ) → leb w 1 ≡ member w (0 ∷ 1 ∷ [])
member-func-linkage zero = refl
member-func-linkage (suc zero) = refl
member-func-linkage (suc (suc w)) =
    lt-leb (suc (suc w)) 1 (omega arith) ∙ member-no-key (suc (suc w)) 0 (1 ∷ []) apart
  where
    apart : OneOf (0 ∷ 1 ∷ []) (suc (suc w)) → ⊥
    apart s = ⊎_elim (λ e. omega arith) (λ e. omega arith) s

-- a VAR's is at most 2
pub member-linkage : (w : ℕ) → leb w 2 ≡ member w (0 ∷ 1 ∷ 2 ∷ [])
member-linkage zero = refl
member-linkage (suc zero) = refl
member-linkage (suc (suc zero)) = refl
member-linkage (suc (suc (suc w))) =
    lt-leb (suc (suc (suc w))) 2 (omega arith) ∙ member-no-key (suc (suc (suc w))) 0 (1 ∷ 2 ∷ []) apart
  where
    apart : OneOf (0 ∷ 1 ∷ 2 ∷ []) (suc (suc (suc w))) → ⊥
    apart s = ⊎_elim (λ e. omega arith) (λ t. ⊎_elim (λ e. omega arith) (λ e. omega arith) t) s

-- ── codes ──

-- a code behind the lists is that of any number
pub values_of-other : (n : ℕ) → (n ≡ 0 → ⊥) → (n ≡ 1 → ⊥) → (n ≡ 2 → ⊥) → (n ≡ 3 → ⊥) → (n ≡ 4 → ⊥) → values_of n ≡ free
values_of-other zero a b c d e = absurd (a refl)
values_of-other (suc zero) a b c d e = absurd (b refl)
values_of-other (suc (suc zero)) a b c d e = absurd (c refl)
values_of-other (suc (suc (suc zero))) a b c d e = absurd (d refl)
values_of-other (suc (suc (suc (suc zero)))) a b c d e = absurd (e refl)
values_of-other (suc (suc (suc (suc (suc n))))) a b c d e = refl

-- the codes of a part of the rows stand for what the rows say, computed once
pub allowed-code : (f : Row → Values) → map (λ (r : Row). values_of (values_code (f r))) rows ≡ map f rows → (k w : ℕ) {code : ℕ}
    → code ≡ values_code (f (row_of k)) → allowed (values_of code) w ≡ allowed (f (row_of k)) w
allowed-code f e k w c =
    ap (λ (n : ℕ). allowed (values_of n) w) c
    ∙ ap (λ (vs : Values). allowed vs w) (row_of-agree (λ (r : Row). values_of (values_code (f r))) f e k)
