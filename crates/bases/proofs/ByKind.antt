-- Laws of `Sign`, by the kind.
-- Assumes nothing.
use Prim.Native.Nat.{ℕ, ◌+◌, ◌/◌, ◌%◌}
use mathlib.Core.Path.{◌≡◌, refl, sym, ap, ◌∙◌}
use borrow.Author.Tests.{eq-eqb, ne_eqb}
use Rattle.paper.specs.rules.KindNo.{ENUM, ENUM64, INT}
use Rattle.paper.specs.rules.Table.{Record, flag_of, kind_of}
use Rattle.paper.specs.rules.Tails.{int_word}
use Rattle.bases.specs.Sign.{sign_of}

module _ (r : Record) {k : ℕ} (kind : k ≡ kind_of r) where
  pub sign-int : k ≡ INT → {w : ℕ} → w ≡ int_word r → w / 16777216 % 16 + 1 ≡ sign_of r
  unfolding sign_of
  sign-int e word = ap (λ (x : ℕ). x / 16777216 % 16 + 1) word ∙ sym (rw (eq-eqb (kind_of r) INT (sym kind ∙ e)) refl)

  module _ (int : k ≡ INT → ⊥) {f : ℕ} (flag : f ≡ flag_of r) where
    pub sign_enum : k ≡ ENUM → f + 1 ≡ sign_of r
    unfolding sign_of
    sign_enum e =
        ap (λ (x : ℕ). x + 1) flag
        ∙ sym (rw (ne_eqb (kind_of r) INT (λ q. int (kind ∙ q)), eq-eqb (kind_of r) ENUM (sym kind ∙ e)) refl)

    module _ (enum : k ≡ ENUM → ⊥) where
      pub sign-enum64 : k ≡ ENUM64 → f + 1 ≡ sign_of r
      unfolding sign_of
      sign-enum64 e =
          ap (λ (x : ℕ). x + 1) flag
          ∙ sym (rw (ne_eqb (kind_of r) INT (λ q. int (kind ∙ q)), ne_eqb (kind_of r) ENUM (λ q. enum (kind ∙ q)), eq-eqb (kind_of r) ENUM64 (sym kind ∙ e)) refl)

      pub sign-none : (k ≡ ENUM64 → ⊥) → 0 ≡ sign_of r
      unfolding sign_of
      sign-none e =
          sym (rw (
            ne_eqb (kind_of r) INT (λ q. int (kind ∙ q)),
            ne_eqb (kind_of r) ENUM (λ q. enum (kind ∙ q)),
            ne_eqb (kind_of r) ENUM64 (λ q. e (kind ∙ q)),
          ) refl)
