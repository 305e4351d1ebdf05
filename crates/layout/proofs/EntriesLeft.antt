-- What is left of a section's entries, behind the end of the one before.
-- Assumes nothing.
use Prim.Native.Nat.{ℕ, zero, suc, ◌+◌, ◌-◌, ◌*◌, ◌<◌, ◌≤◌}
use mathlib.Core.Path.{◌≡◌, refl, sym, ap, ◌∙◌}
use mathlib.Core.Bool.{Bool, true, false, not, ◌&&◌, ◌||◌, false≢true}
use mathlib.Core.List.{List, [], ◌∷◌}
use native.Mathlib.Omega.{arith}
use borrow.Author.Tests.{eq-eqb, ne_eqb, le-leb, lt-leb, not-true, not-false}
use lib.Dec.{eqb, leb}
use Rattle.paper.proofs.basics.Choices.{and-false}
use Rattle.rows.proofs.RecordWords.{tail-read}
use Rattle.paper.specs.rules.Choice.{every}
use Rattle.paper.specs.terms.Reading.{words_from, record_in}
use Rattle.paper.specs.rules.Section.{Entry, entries_in, covers_size, placed_from}
use Rattle.layout.specs.Told.{Recalled, sized, entry_told, section_told}
use Rattle.paper.specs.rules.Table.{Record, tail_length}
use Rattle.paper.specs.declared.Order.{Order}
use Rattle.paper.specs.rules.Word.{word_at}
use Rattle.rows.proofs.RoleCodes.{tail_length-few}

-- ── one entry's place ──

module _ (end free from size : ℕ) where
  abbrev placed : Bool → Bool → Bool
  placed z a = z || (a && leb (from + size) end)

  pub placed-free : end ≡ 0 → true ≡ placed (eqb end 0) (leb free from)
  placed-free e = sym (ap (λ (z : Bool). placed z (leb free from)) (eq-eqb end 0 e))

  module _ (sized : end ≡ 0 → ⊥) where
    sized-only : placed false (leb free from) ≡ placed (eqb end 0) (leb free from)
    sized-only = sym (ap (λ (z : Bool). placed z (leb free from)) (ne_eqb end 0 sized))

    pub placed-back : from < free → false ≡ placed (eqb end 0) (leb free from)
    placed-back h = sym (ap (placed false) (lt-leb free from h)) ∙ sized-only

    pub placed-ends : free ≤ from → leb (from + size) end ≡ placed (eqb end 0) (leb free from)
    placed-ends h = sym (ap (placed false) (le-leb free from h)) ∙ sized-only

-- ── what is left of the entries ──

module _ (order : Order) (s : List ℕ) where
  -- the entries in so many words from a place on
  abbrev pub entries_from : ℕ → ℕ → List Entry
  entries_from p n = entries_in (words_from order s p n)

  pub entries-few : (p n : ℕ) → n < 3 → entries_from p n ≡ []
  entries-few p zero h = refl
  entries-few p (suc zero) h = refl
  entries-few p (suc (suc zero)) h = refl
  entries-few p (suc (suc (suc n))) h = absurd (omega arith)

  pub entries-first : (p n : ℕ)
      → entries_from p (suc (suc (suc n)))
      ≡ record { variable = word_at order s p; offset = word_at order s (p + 4); size = word_at order s (p + 8) } ∷ entries_from (p + 12) n
  entries-first p n =
      let third : p + 4 + 4 ≡ p + 8 = omega arith in
      let behind : p + 4 + 4 + 4 ≡ p + 12 = omega arith in
      λ i. record { variable = word_at order s p; offset = word_at order s (p + 4); size = word_at order s (third i) } ∷ entries_from (behind i) n

-- both rules of some entries behind an end
abbrev set : Recalled → ℕ → ℕ → List Entry → Bool
set X end free es = every (entry_told X) es && (eqb end 0 || placed_from end free es)

pub or-true : (z : Bool) → z || true ≡ true
or-true true = refl
or-true false = refl

-- a place that is refused, or one that is not, in front of the others
place-refused : (z a rest : Bool) → z || a ≡ false → z || (a && rest) ≡ false
place-refused true a rest e = e
place-refused false true rest e = absurd (false≢true (sym e))
place-refused false false rest e = refl

pub place-taken : (z a rest : Bool) → z || a ≡ true → z || (a && rest) ≡ z || rest
place-taken true a rest e = refl
place-taken false true rest e = refl
place-taken false false rest e = absurd (false≢true e)

-- so many words of a tail are left, from a place on, behind an end
pub record Setting (X : Recalled) (r : Record) (order : Order) (s : List ℕ) (p left free : ℕ) : Type 0 where
  pub near : p + 4 * left ≤ 786444
  pub rest : section_told X r ≡ set X r.third free (entries_from order s p left)

pub setting-start : (X : Recalled) (order : Order) (s : List ℕ) {w n : ℕ} → w ≡ word_at order s 4 → n ≡ tail_length w → Setting X (record_in order s) order s 12 n 0
unfolding section_told
setting-start X order s {w} {n} e d =
    record {
      near = omega (arith, d, tail_length-few w);
      rest = ap (λ (ws : List ℕ). set X (record_in order s).third 0 (entries_in ws)) (tail-read order s e d);
    }

module _ {X : Recalled} {r : Record} {order : Order} {s : List ℕ} {p left free : ℕ} (now : Setting X r order s p left free) where
  pub setting-done : left < 3 → true ≡ section_told X r
  setting-done h = sym (now.rest ∙ ap (set X r.third free) (entries-few order s p left h) ∙ or-true (eqb r.third 0))

  module _ (some : 3 ≤ left) {v from size : ℕ} (variable : v ≡ word_at order s p) (offset : from ≡ word_at order s (p + 4))
      (long : size ≡ word_at order s (p + 8)) {x : Bool} (covers : x ≡ covers_size size (sized X v)) where
    abbrev behind : List Entry
    behind = entries_from order s (p + 12) (left - 3)

    abbrev others : Bool
    others = every (entry_told X) behind

    abbrev place : Bool
    place = eqb r.third 0 || ((leb free from && leb (from + size) r.third) && placed_from r.third (from + size) behind)

    -- the first of those that are left, by its two tests
    first : section_told X r ≡ (x && others) && place
    unfolding entry_told
    first =
        let three : left ≡ suc (suc (suc (left - 3))) = omega arith in
        now.rest
        ∙ ap (λ (n : ℕ). set X r.third free (entries_from order s p n)) three
        ∙ ap (set X r.third free) (entries-first order s p (left - 3))
        ∙ sym
        ((λ i. (covers_size (long i) (sized X (variable i)) && others)
        && (eqb r.third 0 || ((leb free (offset i) && leb (offset i + long i) r.third) && placed_from r.third (offset i + long i) behind))))
        ∙ sym (ap (λ (t : Bool). (t && others) && place) covers)

    pub setting-short : not x ≡ true → false ≡ section_told X r
    setting-short e = sym (first ∙ ap (λ (t : Bool). (t && others) && place) (not-true x e))

    module _ (good : not x ≡ false) {end : ℕ} (third : end ≡ r.third) {y : Bool} (test : y ≡ (eqb end 0 || (leb free from && leb (from + size) end))) where
      second : section_told X r ≡ others && place
      second = first ∙ ap (λ (t : Bool). (t && others) && place) (not-false x good)

      placed-here : eqb r.third 0 || (leb free from && leb (from + size) r.third) ≡ y
      placed-here = sym (test ∙ ap (λ (e : ℕ). eqb e 0 || (leb free from && leb (from + size) e)) third)

      pub setting-out : not y ≡ true → false ≡ section_told X r
      setting-out e =
          sym (second
          ∙ ap (λ (t : Bool). others && t) (place-refused (eqb r.third 0) (leb free from && leb (from + size) r.third) _ (placed-here ∙ not-true y e))
          ∙ and-false others)

      pub setting-next : not y ≡ false → Setting X r order s (p + 12) (left - 3) (from + size)
      setting-next e =
          record {
            near = omega (arith, now.near);
            rest =
                second
                ∙ ap (λ (t : Bool). others && t)
                (place-taken (eqb r.third 0) (leb free from && leb (from + size) r.third) _ (placed-here ∙ not-false y e));
          }
