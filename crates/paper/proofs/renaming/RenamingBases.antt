-- The renaming law for bases: following TYPEDEF, qualifiers and TYPE_TAG comes to the renamed base.
-- Assumes nothing.
use Prim.Native.Nat.{ℕ, zero, suc, ◌-◌, ◌≤◌}
use mathlib.Core.Path.{◌≡◌, refl, sym, ap, ◌∙◌}
use mathlib.Core.Bool.{Bool, true, false, cond}
use native.Mathlib.Nat.{sub-add_cancel}
use native.Mathlib.Omega.{arith}
use borrow.Author.Tests.{eqb-true, eqb-false}
use lib.Dec.{eqb}
use Rattle.paper.proofs.walks.Bases.{alias-held, third-held, base_from-void, base_from-add}
use Rattle.paper.proofs.walks.Chains.{ends_held}
use Rattle.paper.proofs.walks.Insides.{held-inside}
use Rattle.paper.proofs.renaming.Renaming.{Renaming, kind_at-rename}
use Rattle.paper.specs.rules.Chain.{endless}
use Rattle.paper.specs.rules.Kind.{Role}
use Rattle.paper.specs.rules.References.{refs_ok}
use Rattle.paper.specs.rules.Rename.{rename_word, rename}
use Rattle.paper.specs.rules.Span.{is_alias, base_from, base_of}
use Rattle.paper.specs.rules.Table.{Record, Table, count, record_at, kind_at}

-- ── renaming ──

module _ {A B : Table} {type name : ℕ → ℕ} (R : Renaming A B type name) (refs : (t : ℕ) → 1 ≤ t → t ≤ count A → refs_ok A (record_at A t) ≡ true) where
  third-inside : (t : ℕ) → is_alias (kind_at A t) ≡ true → (record_at A t).third ≤ count A
  third-inside t e = go (eqb (record_at A t).third 0) refl
    where
      go : (z : Bool) → eqb (record_at A t).third 0 ≡ z → (record_at A t).third ≤ count A
      go true x = let z = eqb-true (record_at A t).third 0 x in omega arith
      go false x = (held-inside A refs t (record_at A t).third (third-held A t e (eqb-false (record_at A t).third 0 x))).2.1

  base_from-inside : (k t : ℕ) → t ≤ count A → base_from A k t ≤ count A
  base_from-inside zero t h = h
  base_from-inside (suc k) t h = go (is_alias (kind_at A t)) refl (λ le. base_from-inside k (record_at A t).third le)
    where
      go : (a : Bool) → is_alias (kind_at A t) ≡ a → ((record_at A t).third ≤ count A → base_from A k (record_at A t).third ≤ count A)
          → cond a (base_from A k (record_at A t).third) t ≤ count A
      go true p on = on (third-inside t p)
      go false p on = h

  alias-third : (t : ℕ) → t ≤ count A → is_alias (kind_at A t) ≡ true → (record_at B (type t)).third ≡ type (record_at A t).third
  unfolding rename
  alias-third t h e =
      ap (λ (r : Record). r.third) (R.same_record t h)
      ∙ ap (λ (ρ : Role). rename_word type name ρ (record_at A t).third) (alias-held (kind_at A t) e)

  base_from-rename : (k t : ℕ) → t ≤ count A → base_from B k (type t) ≡ type (base_from A k t)
  base_from-rename zero t h = refl
  base_from-rename (suc k) t h =
      ap (λ (kind : ℕ). cond (is_alias kind) (base_from B k (record_at B (type t)).third) (type t)) (kind_at-rename R t h)
      ∙ go (is_alias (kind_at A t)) refl (λ le. base_from-rename k (record_at A t).third le)
    where
      go : (a : Bool) → is_alias (kind_at A t) ≡ a
          → ((record_at A t).third ≤ count A → base_from B k (type (record_at A t).third) ≡ type (base_from A k (record_at A t).third))
          → cond a (base_from B k (record_at B (type t)).third) (type t) ≡ type (cond a (base_from A k (record_at A t).third) t)
      go true p on = ap (base_from B k) (alias-third t h p) ∙ on (third-inside t p)
      go false p on = refl

  module _ (ends : (t : ℕ) → 1 ≤ t → t ≤ count A → endless A t ≡ false) where
    base-enough : (t : ℕ) → t ≤ count A → base_from A (count B) t ≡ base_from A (count A) t
    base-enough zero h = base_from-void A (count B) ∙ sym (base_from-void A (count A))
    base-enough (suc t) h =
        ap (λ (k : ℕ). base_from A k (suc t)) (sym (sub-add_cancel R.fewer))
        ∙ base_from-add A (count B - count A) (count A) (suc t) (ends_held A (suc t) (ends (suc t) (omega arith) h))

    pub base_of-rename : (t : ℕ) → t ≤ count A → base_of B (type t) ≡ rename type name (base_of A t)
    unfolding base_of
    base_of-rename t h =
        ap (record_at B) (base_from-rename (count B) t h ∙ ap type (base-enough t h))
        ∙ R.same_record (base_from A (count A) t) (base_from-inside (count A) t h)
