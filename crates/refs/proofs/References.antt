-- Laws of references: which kinds each rule takes, and one word by the code of its role.
-- Assumes nothing.
use Prim.Native.Nat.{ℕ, zero, suc, ◌+◌, ◌-◌, ◌%◌, ◌<◌, ◌≤◌}
use mathlib.Core.Path.{◌≡◌, refl, sym, ap, ◌∙◌}
use mathlib.Core.Bool.{Bool, true, false, not, ◌&&◌}
use mathlib.Core.List.{List, [], ◌∷◌}
use mathlib.Core.Logic.{⊎_elim, inl, inr}
use native.Mathlib.Omega.{arith}
use borrow.Author.Tests.{not-true, not-false}
use types.Run.{OneOf}
use Rattle.refs.specs.Refers.{ref_by, ref_rule_of}
use Rattle.paper.specs.rules.Choice.{member}
use Rattle.paper.specs.declared.Order.{Order}
use Rattle.paper.specs.rules.Kind.{Role, row_of, taggable}
use Rattle.paper.specs.rules.References.{is_plain, ref_ok, ref_word_ok}
use Rattle.paper.specs.rules.Table.{Table, kind_at}
use Rattle.paper.specs.rules.Walk.{known}
use Rattle.paper.specs.rules.Word.{word_at}
use Rattle.paper.specs.terms.Reading.{roled}
use Rattle.paper.proofs.basics.Choices.{and-nothing}
use Rattle.rows.proofs.RoleCodes.{between_in, between-out, role_of-name_code}
use Rattle.kindrows.specs.Codes.{name_code, role_of, is_ref_code, rule_code}
use Rattle.rows.proofs.Members.{member-key, member-no-key}

-- ── plain kinds ──

module _ (k : ℕ) {r : Bool} (asked : r ≡ known k) where
  pub plain-unknown : not r ≡ true → false ≡ is_plain k
  unfolding is_plain
  plain-unknown e = sym (ap (λ (t : Bool). t && not (member k (12 ∷ 14 ∷ 15 ∷ 17 ∷ []))) (sym asked ∙ not-true r e))

  module _ (e : not r ≡ false) where
    known-here : is_plain k ≡ not (member k (12 ∷ 14 ∷ 15 ∷ 17 ∷ []))
    unfolding is_plain
    known-here = ap (λ (t : Bool). t && not (member k (12 ∷ 14 ∷ 15 ∷ 17 ∷ []))) (sym asked ∙ not-false r e)

    pub plain-variable : k ≡ 14 → false ≡ is_plain k
    plain-variable p = sym (known-here ∙ ap not (sym (member-key k 12 (14 ∷ 15 ∷ 17 ∷ []) (inr (inl p)))))

    pub plain_other : OneOf (12 ∷ 15 ∷ 17 ∷ []) k → false ≡ is_plain k
    plain_other s = sym (known-here ∙ ap not (sym (member-key k 12 (14 ∷ 15 ∷ 17 ∷ []) (⊎_elim (λ p. inl p) (λ t. inr (inr t)) s))))

    pub plain-plain : (k ≡ 14 → ⊥) → (OneOf (12 ∷ 15 ∷ 17 ∷ []) k → ⊥) → true ≡ is_plain k
    plain-plain p s =
        sym (known-here ∙ ap not (sym (member-no-key k 12 (14 ∷ 15 ∷ 17 ∷ []) (λ o. ⊎_elim (λ q. s (inl q)) (λ t. ⊎_elim p (λ u. s (inr u)) t) o))))

-- ── rules ──

-- a number behind the last rule but one stands for the last
pub ref_rule_of-other : (n : ℕ) → (n ≡ 0 → ⊥) → (n ≡ 1 → ⊥) → (n ≡ 2 → ⊥) → (n ≡ 3 → ⊥) → (n ≡ 4 → ⊥) → taggable ≡ ref_rule_of n
ref_rule_of-other zero a b c d e = absurd (a refl)
ref_rule_of-other (suc zero) a b c d e = absurd (b refl)
ref_rule_of-other (suc (suc zero)) a b c d e = absurd (c refl)
ref_rule_of-other (suc (suc (suc zero))) a b c d e = absurd (d refl)
ref_rule_of-other (suc (suc (suc (suc zero)))) a b c d e = absurd (e refl)
ref_rule_of-other (suc (suc (suc (suc (suc n))))) a b c d e = refl

-- ── a word by the code of its role ──

module _ (T : Table) (w : ℕ) where
  -- codes below 7 are no references
  word-before : (role : ℕ) → role < 7 → true ≡ ref_word_ok T (role_of role) w
  word-before zero h = refl
  word-before (suc zero) h = refl
  word-before (suc (suc zero)) h = refl
  word-before (suc (suc (suc zero))) h = refl
  word-before (suc (suc (suc (suc zero)))) h = refl
  word-before (suc (suc (suc (suc (suc zero))))) h = refl
  word-before (suc (suc (suc (suc (suc (suc zero)))))) h = refl
  word-before (suc (suc (suc (suc (suc (suc (suc n))))))) h = absurd (omega arith)

  -- nor are those above 18
  word-behind : (role : ℕ) → 18 < role → true ≡ ref_word_ok T (role_of role) w
  word-behind role h =
      let at : role ≡ suc (suc (suc (suc (suc (suc (suc (suc (suc (suc (suc (suc (suc (suc (suc (suc (suc (suc (suc (role - 19))))))))))))))))))) =
      omega arith in
      sym (ap (λ (n : ℕ). ref_word_ok T (role_of n) w) at)

  -- one of the others has the rule of its number from 7 on: twelve codes, one computed list
  rule-there : (role : ℕ) → 7 ≤ role → role ≤ 18 → {r : Bool} → r ≡ ref_by (ref_rule_of (rule_code role)) w (kind_at T w) → r ≡ ref_word_ok T (role_of role) w
  unfolding ref_ok
  rule-there role low high e =
      let at : role ≡ 7 + (role - 7) = omega arith in
      e ∙ twelve (role - 7) (omega arith) ∙ ap (λ (n : ℕ). ref_word_ok T (role_of n) w) (sym at)
    where
      twelve : (m : ℕ) → m < 12 → ref_by (ref_rule_of (m % 6)) w (kind_at T w) ≡ ref_word_ok T (role_of (7 + m)) w
      twelve zero h = refl
      twelve (suc zero) h = refl
      twelve (suc (suc zero)) h = refl
      twelve (suc (suc (suc zero))) h = refl
      twelve (suc (suc (suc (suc zero)))) h = refl
      twelve (suc (suc (suc (suc (suc zero))))) h = refl
      twelve (suc (suc (suc (suc (suc (suc zero)))))) h = refl
      twelve (suc (suc (suc (suc (suc (suc (suc zero))))))) h = refl
      twelve (suc (suc (suc (suc (suc (suc (suc (suc zero)))))))) h = refl
      twelve (suc (suc (suc (suc (suc (suc (suc (suc (suc zero))))))))) h = refl
      twelve (suc (suc (suc (suc (suc (suc (suc (suc (suc (suc zero)))))))))) h = refl
      twelve (suc (suc (suc (suc (suc (suc (suc (suc (suc (suc (suc zero))))))))))) h = refl
      twelve (suc (suc (suc (suc (suc (suc (suc (suc (suc (suc (suc (suc m)))))))))))) h = absurd (omega arith)

  -- a code that is no reference passes, and another goes by its rule
  pub word-other : (role : ℕ) {z : Bool} → z ≡ is_ref_code role → not z ≡ true → true ≡ ref_word_ok T (role_of role) w
  word-other role {z} asked e = ⊎_elim (λ h. word-before role h) (λ h. word-behind role h) (between-out 7 18 role (sym asked ∙ not-true z e))

  pub word-rule : (role : ℕ) {z : Bool} → z ≡ is_ref_code role → not z ≡ false → {r : Bool} → r ≡ ref_by (ref_rule_of (rule_code role)) w (kind_at T w)
      → r ≡ ref_word_ok T (role_of role) w
  word-rule role {z} asked e d = let at = between_in 7 18 role (sym asked ∙ not-false z e) in rule-there role at.0 at.1 d

  pub word_none : (role : ℕ) → is_ref_code role ≡ false → true ≡ ref_word_ok T (role_of role) w
  word_none role e = word-other role (sym e) refl

-- of a head's three words the third alone is asked
pub head-ref : (order : Order) (T : Table) (s : List ℕ) (k c : ℕ) {t : Bool} → t ≡ ref_word_ok T (role_of c) (word_at order s 8)
    → t ≡ roled order (ref_word_ok T) s 0 (role_of (name_code (row_of k).name) ∷ role_of 0 ∷ role_of c ∷ [])
unfolding roled
head-ref order T s k c e =
    let third = ref_word_ok T (role_of c) (word_at order s 8) in
    e
    ∙ sym (and-nothing third)
    ∙ sym (ap (λ (ρ : Role). ref_word_ok T ρ (word_at order s 0) && (third && true)) (role_of-name_code (row_of k).name))
