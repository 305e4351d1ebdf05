-- Laws of bases as code follows them: what is left of the way to a base.
-- Assumes nothing.
use Prim.Native.Nat.{ℕ, zero, suc, ◌-◌, ◌<◌, ◌≤◌}
use mathlib.Core.Path.{◌≡◌, refl, sym, ap, ◌∙◌}
use mathlib.Core.Bool.{Bool, true, false, not, cond}
use mathlib.Core.List.{List}
use native.Mathlib.Omega.{arith}
use borrow.Author.Tests.{not-true, not-false}
use Rattle.paper.specs.terms.Reading.{record_in}
use Rattle.paper.specs.rules.Span.{is_alias, base_from, base_of}
use Rattle.paper.specs.rules.Table.{Record, Table, count, record_at, kind_at}
use Rattle.paper.specs.declared.Order.{Order}
use Rattle.paper.specs.rules.Word.{word_at}
use Rattle.rows.proofs.RecordWords.{third-read}

-- so many steps are left at a type, and lead where all lead from the first
pub record Leading (T : Table) (n t left at : ℕ) : Type 0 where
  pub rest : base_from T n t ≡ base_from T left at

module _ {T : Table} {n t left at : ℕ} (now : Leading T n t left at) where
  pub leading-done : left ≤ 0 → at ≡ base_from T n t
  leading-done h = let none : left ≡ 0 = omega arith in sym (now.rest ∙ ap (λ (k : ℕ). base_from T k at) none)

  module _ (some : 0 < left) {k : ℕ} (kind : k ≡ kind_at T at) {a : Bool} (test : a ≡ is_alias k) where
    -- one step
    step : base_from T n t ≡ cond a (base_from T (left - 1) (record_at T at).third) at
    step =
        let one : left ≡ suc (left - 1) = omega arith in
        now.rest
        ∙ ap (λ (k : ℕ). base_from T k at) one
        ∙ ap (λ (b : Bool). cond b (base_from T (left - 1) (record_at T at).third) at) (sym (test ∙ ap is_alias kind))

    pub leading-stop : not a ≡ true → at ≡ base_from T n t
    leading-stop e = sym (step ∙ ap (λ (b : Bool). cond b (base_from T (left - 1) (record_at T at).third) at) (not-true a e))

    pub leading-next : not a ≡ false → (order : Order) (s : List ℕ) → record_in order s ≡ record_at T at → {u : ℕ} → u ≡ word_at order s 8 → Leading T n t (left - 1) u
    leading-next e order s is third =
        record {
          rest =
              step
              ∙ ap (λ (b : Bool). cond b (base_from T (left - 1) (record_at T at).third) at) (not-false a e)
              ∙ ap (base_from T (left - 1)) (sym (third-read order s is third));
        }

-- the base's record, from its number
pub base-found : (T : Table) (t : ℕ) {n u : ℕ} → n ≡ count T → u ≡ base_from T n t → {r : Record} → r ≡ record_at T u → r ≡ base_of T t
unfolding base_of
base-found T t counted e d = d ∙ ap (record_at T) (e ∙ ap (λ (k : ℕ). base_from T k t) counted)

-- what is no alias is its own base, with however many steps
pub base-own : (T : Table) (t : ℕ) {k : ℕ} {a : Bool} → k ≡ kind_at T t → a ≡ is_alias k → not a ≡ true → {r : Record} → r ≡ record_at T t → r ≡ base_of T t
unfolding base_of
base-own T t {k} {a} kind test e d = d ∙ ap (record_at T) (sym (stays (count T)))
  where
    stays : (n : ℕ) → base_from T n t ≡ t
    stays zero = refl
    stays (suc n) = ap (λ (b : Bool). cond b (base_from T n (record_at T t).third) t) (sym (test ∙ ap is_alias kind) ∙ not-true a e)
