-- Laws of one word by the code of its role: a name that its rule allows, or no name.
-- Assumes nothing.
use Prim.Native.Nat.{ℕ, zero, suc, ◌+◌, ◌-◌, ◌<◌, ◌≤◌}
use mathlib.Core.Path.{◌≡◌, refl, sym, ap, ◌∙◌}
use mathlib.Core.Bool.{Bool, true, false, not, cond, ◌&&◌}
use mathlib.Core.Logic.{⊎_elim}
use mathlib.Core.List.{List, [], ◌∷◌}
use native.Mathlib.Omega.{arith}
use borrow.Author.Tests.{le-leb, lt-ltb, le-ltb, ltb-true, ltb-false, not-true, not-false}
use lib.Dec.{ltb}
use lib.ListN.{length}
use Rattle.paper.specs.declared.Order.{Order}
use Rattle.paper.specs.rules.Kind.{NameRule, Role, Row, row_of, rows, names, refers, holds, number, void_or_plain, plain, an_int, a_proto, a_var, taggable}
use Rattle.paper.specs.rules.Name.{name_in}
use Rattle.pairs.specs.Lean.{name_over, name_ok_over, name_word_over}
use Rattle.paper.specs.rules.Names.{name_fits}
use Rattle.paper.specs.rules.Word.{word_at}
use Rattle.paper.specs.terms.Reading.{roled}
use Rattle.paper.proofs.basics.Choices.{and-true, and-nothing, every-get_d}
use Rattle.paper.proofs.basics.Rows.{row_of-every}
use Rattle.rows.proofs.RoleCodes.{between_in, between-out, name_code-range, role_of-role_code}
use Rattle.kindrows.specs.Codes.{name_code, role_code, role_of, is_name_code}
use Rattle.naming.specs.RuleOf.{name_rule_of}
use Rattle.naming.specs.Sections.{section_of, place_in}

-- a code of 1 to 6 is that of a name
role-names : (role : ℕ) → (role ≡ 0 → ⊥) → role ≤ 6 → role_of role ≡ names (name_rule_of role)
role-names zero n h = absurd (n refl)
role-names (suc zero) n h = refl
role-names (suc (suc zero)) n h = refl
role-names (suc (suc (suc zero))) n h = refl
role-names (suc (suc (suc (suc zero)))) n h = refl
role-names (suc (suc (suc (suc (suc zero))))) n h = refl
role-names (suc (suc (suc (suc (suc (suc zero)))))) n h = refl
role-names (suc (suc (suc (suc (suc (suc (suc role))))))) n h = absurd (omega arith)

-- a code behind the last rule but one stands for the last
pub name_rule_of-other : (n : ℕ) → (n ≡ 1 → ⊥) → (n ≡ 2 → ⊥) → (n ≡ 3 → ⊥) → (n ≡ 4 → ⊥) → (n ≡ 5 → ⊥) → name_rule_of 6 ≡ name_rule_of n
name_rule_of-other zero a b c d e = refl
name_rule_of-other (suc zero) a b c d e = absurd (a refl)
name_rule_of-other (suc (suc zero)) a b c d e = absurd (b refl)
name_rule_of-other (suc (suc (suc zero))) a b c d e = absurd (c refl)
name_rule_of-other (suc (suc (suc (suc zero)))) a b c d e = absurd (d refl)
name_rule_of-other (suc (suc (suc (suc (suc zero))))) a b c d e = absurd (e refl)
name_rule_of-other (suc (suc (suc (suc (suc (suc n)))))) a b c d e = refl

-- ── the section that an offset lies in ──

module _ (base strings : List ℕ) {w : ℕ} where
  pub section-first : w < length base → base ≡ section_of base strings w
  unfolding section_of
  section-first h = rw (lt-ltb w (length base) h) refl

  pub section-second : length base ≤ w → strings ≡ section_of base strings w
  unfolding section_of
  section-second h = rw (le-ltb w (length base) h) refl

module _ (base : List ℕ) {w : ℕ} where
  pub place-first : w < length base → w ≡ place_in base w
  unfolding place_in
  place-first h = rw (lt-ltb w (length base) h) refl

  pub place-second : length base ≤ w → w - length base ≡ place_in base w
  unfolding place_in
  place-second h = rw (le-ltb w (length base) h) refl

module _ (base strings : List ℕ) where
  -- a word of a reference passes, and one past all codes
  word-behind : (role w : ℕ) → 6 < role → true ≡ name_word_over base strings (role_of role) w
  word-behind zero w h = absurd (omega arith)
  word-behind (suc zero) w h = absurd (omega arith)
  word-behind (suc (suc zero)) w h = absurd (omega arith)
  word-behind (suc (suc (suc zero))) w h = absurd (omega arith)
  word-behind (suc (suc (suc (suc zero)))) w h = absurd (omega arith)
  word-behind (suc (suc (suc (suc (suc zero))))) w h = absurd (omega arith)
  word-behind (suc (suc (suc (suc (suc (suc zero)))))) w h = absurd (omega arith)
  word-behind (suc (suc (suc (suc (suc (suc (suc n))))))) w h =
      sym
      (every-get_d (λ (ρ : Role). name_word_over base strings ρ w)
      (refers void_or_plain ∷ refers plain ∷ refers an_int ∷ refers a_proto ∷ refers a_var ∷ refers taggable
      ∷ holds void_or_plain ∷ holds plain ∷ holds an_int ∷ holds a_proto ∷ holds a_var ∷ holds taggable ∷ [])
      number refl refl n)

  word_number : (role w : ℕ) → role < 1 → true ≡ name_word_over base strings (role_of role) w
  word_number zero w h = refl
  word_number (suc n) w h = absurd (omega arith)

  -- any other word passes
  pub word-other : (role w : ℕ) {z : Bool} → z ≡ is_name_code role → not z ≡ true → true ≡ name_word_over base strings (role_of role) w
  word-other role w {z} asked e = ⊎_elim (λ h. word_number role w h) (λ h. word-behind role w h) (between-out 1 6 role (sym asked ∙ not-true z e))

  module _ (role w : ℕ) {z : Bool} (asked : z ≡ is_name_code role) (e : not z ≡ false) where
    at : (1 ≤ role) × (role ≤ 6)
    at = between_in 1 6 role (sym asked ∙ not-false z e)

    named : role_of role ≡ names (name_rule_of role)
    named = role-names role (λ n. omega (arith, at)) at.1

    -- what the rule asks of the name, where the offset is below the length of both sections
    asked-there : {r t : Bool} {cs : List ℕ} → ltb w (length base + length strings) ≡ t → name_over base strings w ≡ cs
        → r ≡ (t && name_fits (name_rule_of role) w cs) → r ≡ name_word_over base strings (role_of role) w
    unfolding name_ok_over
    asked-there below there e =
        e
        ∙ sym (λ i. below i && name_fits (name_rule_of role) w (there i))
        ∙ sym (ap (λ (ρ : Role). name_word_over base strings ρ w) named)

    -- the name, and whether it is there, by the section that the offset lies in and its place there
    section-name : name_over base strings w ≡ name_in (section_of base strings w) (place_in base w)
    unfolding name_over section_of place_in
    section-name = go (ltb w (length base))
      where
        go : (t : Bool) → cond t (name_in base w) (name_in strings (w - length base)) ≡ name_in (cond t base strings) (cond t w (w - length base))
        go true = refl
        go false = refl

    section-below : place_in base w < length (section_of base strings w) → w < length base + length strings
    unfolding section_of place_in
    section-below = go (ltb w (length base)) refl
      where
        go : (t : Bool) → ltb w (length base) ≡ t → cond t w (w - length base) < length (cond t base strings) → w < length base + length strings
        go true e h = omega arith
        go false e h = let past = ltb-false w (length base) e in omega arith

    section-past : length (section_of base strings w) ≤ place_in base w → length base + length strings ≤ w
    unfolding section_of place_in
    section-past = go (ltb w (length base)) refl
      where
        go : (t : Bool) → ltb w (length base) ≡ t → length (cond t base strings) ≤ cond t w (w - length base) → length base + length strings ≤ w
        go true e h = let below = ltb-true w (length base) e in absurd (omega arith)
        go false e h = let past = ltb-false w (length base) e in omega arith

    module _ {s : List ℕ} {from : ℕ} (is : s ≡ section_of base strings w) (at : from ≡ place_in base w) where
      pub word-inside : from < length s → {r : Bool} → r ≡ name_fits (name_rule_of role) w (name_in s from) → r ≡ name_word_over base strings (role_of role) w
      word-inside h e =
          asked-there (lt-ltb w (length base + length strings) (section-below (omega (arith, ap length is, at))))
          (section-name ∙ (λ i. name_in (sym is i) (sym at i))) e

      -- "Each offset is below the string length"
      pub word-outside : length s ≤ from → false ≡ name_word_over base strings (role_of role) w
      word-outside h =
          asked-there (le-ltb w (length base + length strings) (section-past (omega (arith, ap length is, at)))) refl refl

-- the code of a name's rule is that of a name
pub name-code : (rule : NameRule) {a : ℕ} → a ≡ name_code rule → is_name_code a ≡ true
name-code rule {a} e =
    let at = name_code-range rule in
    and-true (le-leb 1 a (omega (arith, at))) (le-leb a 6 (omega (arith, at)))

-- of a head's three words the name alone is asked: no kind has a name for its third
module _ (order : Order) (base strings s : List ℕ) where
  third-nameless : (k w : ℕ) → name_word_over base strings (role_of (role_code (row_of k).third_role)) w ≡ true
  third-nameless k w =
      ap (λ (ρ : Role). name_word_over base strings ρ w) (role_of-role_code (row_of k).third_role)
      ∙ row_of-every (λ (r : Row). name_word_over base strings r.third_role w) (unfold rows in refl) k

  pub head-name : (k a : ℕ) {t : Bool} → t ≡ name_word_over base strings (role_of a) (word_at order s 0)
      → t ≡ roled order (name_word_over base strings) s 0 (role_of a ∷ role_of 0 ∷ role_of (role_code (row_of k).third_role) ∷ [])
  unfolding roled
  head-name k a e =
      e
      ∙ sym (and-nothing (name_word_over base strings (role_of a) (word_at order s 0)))
      ∙ sym (ap (λ (t : Bool). name_word_over base strings (role_of a) (word_at order s 0) && (t && true)) (third-nameless k (word_at order s 8)))
