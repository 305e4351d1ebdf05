-- A struct or a union is told by the upper half of its info word.
-- Assumes nothing.
use Prim.Native.Nat.{ℕ, ◌/◌}
use native.Mathlib.Omega.{arith}
use mathlib.Core.Path.{◌≡◌, refl, ap}
use mathlib.Core.Bool.{true}
use mathlib.Core.List.{[], ◌∷◌}
use mathlib.Core.Logic.{◌⊎◌, inl, inr, ⊎_elim}
use borrow.Author.Tests.{eq-eqb}
use Rattle.paper.proofs.basics.Choices.{and-true, member-each}
use Rattle.paper.specs.rules.Choice.{member}
use Rattle.paper.specs.rules.Heads.{spare_zero}
use Rattle.paper.specs.rules.Kind.{row_of, rows}
use Rattle.paper.specs.rules.KindNo.{STRUCT, UNION}
use Rattle.paper.specs.rules.Table.{bits, kind_in}

pub record Grouped (info : ℕ) : Type 0 where
  pub spare : spare_zero info ≡ true
  pub kind : (kind_in info ≡ STRUCT) ⊎ (kind_in info ≡ UNION)
  pub row : row_of (kind_in info) ≡ row_of STRUCT

group : (info : ℕ) → bits 16 23 info ≡ 0 → bits 29 30 info ≡ 0 → (kind_in info ≡ STRUCT) ⊎ (kind_in info ≡ UNION) → Grouped info
unfolding row_of rows spare_zero
group info low high kind =
    record {
      spare = and-true (eq-eqb (bits 16 23 info) 0 low) (eq-eqb (bits 29 30 info) 0 high);
      kind = kind;
      row = ⊎_elim (λ e. ap row_of e) (λ e. ap row_of e) kind;
    }

-- with a kind_flag or without
pub group-half : (info : ℕ) → member (info / 65536) (1024 ∷ 1280 ∷ 33792 ∷ 34048 ∷ []) ≡ true → Grouped info
group-half info half =
    member-each (λ (q : ℕ). info / 65536 ≡ q → Grouped info) (info / 65536) (1024 ∷ 1280 ∷ 33792 ∷ 34048 ∷ []) half (
      λ h. group info (omega arith) (omega arith) (inl (omega arith)),
      (
        λ h. group info (omega arith) (omega arith) (inr (omega arith)),
        (
          λ h. group info (omega arith) (omega arith) (inl (omega arith)),
          (
            λ h. group info (omega arith) (omega arith) (inr (omega arith)),
            tt,
          ),
        ),
      ),
    )
    refl
