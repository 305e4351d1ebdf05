-- Laws of `found_rules`: which rule is due, in their order, a law for each return, and what follows of the number.
-- Assumes nothing.
use Prim.Native.Nat.{ℕ, ◌+◌, ◌*◌, ◌/◌, ◌%◌, ◌≤◌, ◌<◌}
use mathlib.Core.Path.{◌≡◌, refl, sym, ap, ap₂, ◌∙◌, subst}
use mathlib.Core.Bool.{Bool, true, false, not, cond, ◌&&◌, false≢true}
use mathlib.Core.List.{List, [], ◌∷◌}
use mathlib.Core.Option.{Option, none, some}
use native.Mathlib.Nat.{pos_of_ne-zero}
use native.Mathlib.Omega.{arith}
use borrow.Author.Tests.{le-leb, lt-leb, le-ltb, lt-ltb, leb-true, ltb-false, not-false}
use lib.Dec.{leb, ltb}
use Rattle.paper.proofs.basics.Choices.{and_left, and_right, first_due-none, member-each}
use Rattle.paper.specs.rules.Choice.{Rule, ◌when◌, first_due, member}
use Rattle.values.specs.Given.{Finding, found_rules, sort_number, found_as_paper}
use Rattle.values.specs.Promised.{due_or, judged, refusals}
use Rattle.values.specs.declared.MemberSpan.{MemberSpan}
use Rattle.values.specs.declared.Sort.{Sort}

-- ── behind 31 ──

abbrev found : ℕ → ℕ → ℕ → ℕ → Finding
found number size from bits = record { number = number; size = size; from = from; bits = bits }

-- by what each rule finds
due : ℕ → Bool → Bool → Bool → Bool → Bool → ℕ
due number short late least most behind =
    due_or number (cond short (some 30) (cond late (some number) (cond (not (least && most)) (some 33) (cond behind (some 30) none))))

module _ (number : ℕ) (one : member number (0 ∷ 1 ∷ 32 ∷ 33 ∷ []) ≡ true) (size from bits n : ℕ) where
  all-due : judged (found number size from bits) n
      ≡ due number (ltb n size) (member number (32 ∷ 33 ∷ [])) (leb 1 bits) (leb bits 128) (ltb (8 * n) (from + bits))
  unfolding due judged
  all-due =
      ap (λ (b : Bool). due_or number (cond b (some number) (cond (ltb n size) (some 30) (cond (member number (32 ∷ 33 ∷ [])) (some number) (cond (not (leb 1 bits && leb bits 128)) (some 33) (cond (ltb (8 * n) (from + bits)) (some 30) none))))))
      (member-each (λ (k : ℕ). member k (35 ∷ 21 ∷ 31 ∷ []) ≡ false) number (0 ∷ 1 ∷ 32 ∷ 33 ∷ []) one (refl, (refl, (refl, (refl, tt)))))

  -- 30: the record is shorter than the type
  pub late-short : n < size → 30 ≡ judged (found number size from bits) n
  unfolding due
  late-short h =
      sym (all-due ∙ ap (λ (b : Bool). due number b (member number (32 ∷ 33 ∷ [])) (leb 1 bits) (leb bits 128) (ltb (8 * n) (from + bits))) (lt-ltb n size h))

  module _ (long : size ≤ n) where
    long-due : judged (found number size from bits) n ≡ due number false (member number (32 ∷ 33 ∷ [])) (leb 1 bits) (leb bits 128) (ltb (8 * n) (from + bits))
    long-due = all-due ∙ ap (λ (b : Bool). due number b (member number (32 ∷ 33 ∷ [])) (leb 1 bits) (leb bits 128) (ltb (8 * n) (from + bits))) (le-ltb n size long)

    -- 32 and 33: there is no such member, or it is no number
    pub late-refused : 1 < number → number ≡ judged (found number size from bits) n
    unfolding due
    late-refused h =
        sym (long-due
        ∙ ap (λ (b : Bool). due number false b (leb 1 bits) (leb bits 128) (ltb (8 * n) (from + bits)))
        (member-each (λ (k : ℕ). 1 < k → member k (32 ∷ 33 ∷ []) ≡ true) number (0 ∷ 1 ∷ 32 ∷ 33 ∷ []) one
        ((λ h. absurd (omega arith)), ((λ h. absurd (omega arith)), ((λ h. refl), ((λ h. refl), tt)))) h))

    module _ (plain : number ≤ 1) where
      plain-due : judged (found number size from bits) n ≡ due number false false (leb 1 bits) (leb bits 128) (ltb (8 * n) (from + bits))
      plain-due =
          long-due
          ∙ ap (λ (b : Bool). due number false b (leb 1 bits) (leb bits 128) (ltb (8 * n) (from + bits)))
          (member-each (λ (k : ℕ). k ≤ 1 → member k (32 ∷ 33 ∷ []) ≡ false) number (0 ∷ 1 ∷ 32 ∷ 33 ∷ []) one
          ((λ h. refl), ((λ h. refl), ((λ h. absurd (omega arith)), ((λ h. absurd (omega arith)), tt)))) plain)

      -- 33: a span of no bits, or of too many
      pub late-no-bits : bits ≡ 0 → 33 ≡ judged (found number size from bits) n
      unfolding due
      late-no-bits h = sym (plain-due ∙ ap (λ (b : Bool). due number false false b (leb bits 128) (ltb (8 * n) (from + bits))) (lt-leb 1 bits (omega arith)))

      module _ (some_bits : bits ≡ 0 → ⊥) where
        least : leb 1 bits ≡ true
        least = le-leb 1 bits (pos_of_ne-zero some_bits)

        pub late-many-bits : 128 < bits → 33 ≡ judged (found number size from bits) n
        unfolding due
        late-many-bits h = sym (plain-due ∙ ap₂ (λ (a b : Bool). due number false false a b (ltb (8 * n) (from + bits))) least (lt-leb bits 128 h))

        module _ (most : bits ≤ 128) where
          span-due : judged (found number size from bits) n ≡ due number false false true true (ltb (8 * n) (from + bits))
          span-due = plain-due ∙ ap₂ (λ (a b : Bool). due number false false a b (ltb (8 * n) (from + bits))) least (le-leb bits 128 most)

          -- 30: it ends behind the record; compared in bytes
          pub late-behind : n < from / 8 + (from % 8 + bits + 7) / 8 → 30 ≡ judged (found number size from bits) n
          unfolding due
          late-behind h = sym (span-due ∙ ap (due number false false true true) (lt-ltb (8 * n) (from + bits) (omega arith)))

          -- none of these
          pub late-inside : from / 8 + (from % 8 + bits + 7) / 8 ≤ n → number ≡ judged (found number size from bits) n
          unfolding due
          late-inside h = sym (span-due ∙ ap (due number false false true true) (le-ltb (8 * n) (from + bits) (omega arith)))

-- ── any member, by its sort ──

module _ {sort : Sort} (size from bits n : ℕ) {r : ℕ} where
  sorted : (k : Sort) → sort ≡ k → r ≡ judged (found (sort_number k) size from bits) n → r ≡ judged (found (sort_number sort) size from bits) n
  sorted k e is = is ∙ ap (λ (x : Sort). judged (found (sort_number x) size from bits) n) (sym e)

  pub sort-unsigned : sort ≡ Sort.Unsigned → r ≡ judged (found 0 size from bits) n → r ≡ judged (found (sort_number sort) size from bits) n
  unfolding sort_number
  sort-unsigned = sorted Sort.Unsigned

  pub sort-signed : sort ≡ Sort.Signed → r ≡ judged (found 1 size from bits) n → r ≡ judged (found (sort_number sort) size from bits) n
  unfolding sort_number
  sort-signed = sorted Sort.Signed

  pub sort-member : sort ≡ Sort.NoMember → r ≡ judged (found 32 size from bits) n → r ≡ judged (found (sort_number sort) size from bits) n
  unfolding sort_number
  sort-member = sorted Sort.NoMember

  pub sort-number : sort ≡ Sort.NoNumber → r ≡ judged (found 33 size from bits) n → r ≡ judged (found (sort_number sort) size from bits) n
  unfolding sort_number
  sort-number = sorted Sort.NoNumber

-- 35, 21 and 31 at once
module _ {sort : Sort} (size from bits n : ℕ) where
  pub sort-high : sort ≡ Sort.HighFirst → 35 ≡ judged (found (sort_number sort) size from bits) n
  unfolding sort_number judged
  sort-high e = sorted size from bits n Sort.HighFirst e refl

  pub sort-type : sort ≡ Sort.NoType → 21 ≡ judged (found (sort_number sort) size from bits) n
  unfolding sort_number judged
  sort-type e = sorted size from bits n Sort.NoType e refl

  pub sort-struct : sort ≡ Sort.NoStruct → 31 ≡ judged (found (sort_number sort) size from bits) n
  unfolding sort_number judged
  sort-struct e = sorted size from bits n Sort.NoStruct e refl

-- ── what follows of the number ──

-- what holds of the number of every rule that is due
abbrev AllDue : (ℕ → Type 0) → List Rule → Type 0
AllDue P [] = Unit {0}
AllDue P (n when due ∷ rules) = (due ≡ true → P n) × AllDue P rules

due-each : (P : ℕ → Type 0) (rules : List Rule) (k : ℕ) → AllDue P rules → first_due rules ≡ some k → P k
due-each P [] k h e = absurd (let z : ◌≡◌ {A = ℕ} 0 1 = cc in omega arith)
due-each P (n when true ∷ rules) k h e = let same : n ≡ k = cc in subst P same (h.0 refl)
due-each P (n when false ∷ rules) k h e = due-each P rules k h.1 e

abbrev Known : ℕ → Type 0
Known k = member k refusals ≡ true

known : (f : Finding) (n k : ℕ) → first_due (found_rules f n) ≡ some k → Known k
known f n k =
    let early : member f.number (35 ∷ 21 ∷ 31 ∷ []) ≡ true → Known f.number =
    λ e. member-each Known f.number (35 ∷ 21 ∷ 31 ∷ []) e (refl, (refl, (refl, tt))) in
    let late : member f.number (32 ∷ 33 ∷ []) ≡ true → Known f.number = λ e. member-each Known f.number (32 ∷ 33 ∷ []) e (refl, (refl, tt)) in
    due-each Known (found_rules f n) k (early, ((λ e. refl), (late, ((λ e. refl), ((λ e. refl), tt)))))

known-high : (k : ℕ) → Known k → 1 < k
known-high k e =
    member-each (λ (x : ℕ). 1 < x) k refusals e (omega arith, (omega arith, (omega arith, (omega arith, (omega arith, (omega arith, tt))))))

-- where none is due the member is numeric
plain : (k : Sort) → member (sort_number k) (35 ∷ 21 ∷ 31 ∷ []) ≡ false → member (sort_number k) (32 ∷ 33 ∷ []) ≡ false → sort_number k < 2
unfolding sort_number
plain Sort.Unsigned e e' = omega arith
plain Sort.Signed e e' = omega arith
plain Sort.HighFirst e e' = absurd (false≢true (sym e))
plain Sort.NoType e e' = absurd (false≢true (sym e))
plain Sort.NoStruct e e' = absurd (false≢true (sym e))
plain Sort.NoMember e e' = absurd (false≢true (sym e'))
plain Sort.NoNumber e e' = absurd (false≢true (sym e'))

module _ (m : MemberSpan) (n : ℕ) {r : ℕ} (is : r ≡ judged (found_as_paper m) n) where
  number_by : (o : Option ℕ) → first_due (found_rules (found_as_paper m) n) ≡ o → r ≡ due_or (sort_number m.sort) o
  unfolding judged
  number_by o e = is ∙ ap (due_or (sort_number m.sort)) e

  pub number-plain : r < 2 → (first_due (found_rules (found_as_paper m) n) ≡ none) × (r ≡ sort_number m.sort)
  number-plain h = go (first_due (found_rules (found_as_paper m) n)) refl
    where
      go : (o : Option ℕ) → first_due (found_rules (found_as_paper m) n) ≡ o → (first_due (found_rules (found_as_paper m) n) ≡ none) × (r ≡ sort_number m.sort)
      go none e = (e, number_by none e)
      go (some k) e = absurd (let same = number_by (some k) e in let high = known-high k (known (found_as_paper m) n k e) in omega arith)

  pub number-refused : 1 < r → (first_due (found_rules (found_as_paper m) n) ≡ some r) × Known r
  number-refused h = go (first_due (found_rules (found_as_paper m) n)) refl
    where
      go : (o : Option ℕ) → first_due (found_rules (found_as_paper m) n) ≡ o → (first_due (found_rules (found_as_paper m) n) ≡ some r) × Known r
      go none e =
          absurd (
          let off = first_due-none (found_rules (found_as_paper m) n) e in
          let same = number_by none e in
          let low = plain m.sort off.0 off.1.1.0 in
          omega arith
          )
      go (some k) e = let same = sym (number_by (some k) e) in (e ∙ ap some same, subst Known same (known (found_as_paper m) n k e))

-- where none is due the span is one of 1 to 128 bits inside the record
pub due-none : (f : Finding) (n : ℕ) → first_due (found_rules f n) ≡ none → (1 ≤ f.bits) × (f.bits ≤ 128) × (f.from + f.bits ≤ 8 * n)
due-none f n e =
    let off = first_due-none (found_rules f n) e in
    let few = not-false _ off.1.1.1.0 in
    (leb-true _ _ (and_left (leb 1 f.bits) _ few), leb-true _ _ (and_right (leb 1 f.bits) _ few), ltb-false _ _ off.1.1.1.1.0)
