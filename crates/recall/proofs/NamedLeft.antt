-- What is left of a prototype's parameters, where the ones passed have a name.
-- Assumes nothing.
use Prim.Native.Nat.{ℕ, zero, suc, ◌+◌, ◌-◌, ◌*◌, ◌<◌, ◌≤◌}
use mathlib.Core.Path.{◌≡◌, refl, sym, ap, ◌∙◌}
use mathlib.Core.Bool.{Bool, true, false, not, ◌&&◌, ◌||◌}
use mathlib.Core.List.{List, [], ◌∷◌}
use native.Mathlib.Omega.{arith}
use borrow.Author.Tests.{eq-eqb, ne_eqb}
use lib.Dec.{eqb}
use Rattle.rows.proofs.RecordWords.{tail-read}
use Rattle.paper.specs.rules.Choice.{is_empty}
use Rattle.paper.specs.rules.Layout.{all_named}
use Rattle.paper.specs.terms.Reading.{words_from, record_in}
use Rattle.paper.specs.rules.Table.{tail_length}
use Rattle.paper.specs.rules.Tails.{Parameter, parameters_in, parameters_of, is_last00}
use Rattle.paper.specs.declared.Order.{Order}
use Rattle.paper.specs.rules.Word.{word_at}
use Rattle.rows.proofs.RoleCodes.{tail_length-few}

module _ (order : Order) (s : List ℕ) where
  -- the parameters in so many words from a place on
  abbrev pub parameters_from : ℕ → ℕ → List Parameter
  parameters_from p n = parameters_in (words_from order s p n)

  pub parameters-few : (p n : ℕ) → n < 2 → parameters_from p n ≡ []
  parameters-few p zero h = refl
  parameters-few p (suc zero) h = refl
  parameters-few p (suc (suc n)) h = absurd (omega arith)

  pub parameters-first : (p n : ℕ)
      → parameters_from p (suc (suc n)) ≡ record { name = word_at order s p; type = word_at order s (p + 4) } ∷ parameters_from (p + 8) n
  parameters-first p n =
      let behind : p + 4 + 4 ≡ p + 8 = omega arith in
      λ i. record { name = word_at order s p; type = word_at order s (p + 4) } ∷ parameters_from (behind i) n

  parameters-more : (p n : ℕ) → 2 ≤ n → is_empty (parameters_from p n) ≡ false
  parameters-more p n h = let two : n ≡ suc (suc (n - 2)) = omega arith in ap (λ (m : ℕ). is_empty (parameters_from p m)) two

-- so many words of a tail are left, from a place on
pub record Naming (order : Order) (s : List ℕ) (p left : ℕ) : Type 0 where
  pub near : p + 4 * left ≤ 786444
  pub rest : all_named (parameters_of (record_in order s)) ≡ all_named (parameters_from order s p left)

pub naming-start : (order : Order) (s : List ℕ) {w n : ℕ} → w ≡ word_at order s 4 → n ≡ tail_length w → Naming order s 12 n
naming-start order s {w} {n} e d =
    record {
      near = omega (arith, d, tail_length-few w);
      rest = ap (λ (ws : List ℕ). all_named (parameters_in ws)) (tail-read order s e d);
    }

module _ {order : Order} {s : List ℕ} {p left : ℕ} (now : Naming order s p left) where
  abbrev all : Bool
  all = all_named (parameters_of (record_in order s))

  pub naming-done : left < 2 → true ≡ all
  naming-done h = sym (now.rest ∙ ap all_named (parameters-few order s p left h))

  module _ (some : 2 ≤ left) {name : ℕ} (read : name ≡ word_at order s p) where
    abbrev type : ℕ
    type = word_at order s (p + 4)

    abbrev behind : List Parameter
    behind = parameters_from order s (p + 8) (left - 2)

    -- the first of those that are left, by whether it has no name and whether it is the last
    abbrev first : Bool → Bool → Bool
    first unnamed last = (not unnamed || (last && eqb type 0 && unnamed)) && all_named behind

    by_first : all ≡ first (eqb name 0) (is_empty behind)
    unfolding is_last00
    by_first =
        let two : left ≡ suc (suc (left - 2)) = omega arith in
        now.rest
        ∙ ap (λ (n : ℕ). all_named (parameters_from order s p n)) two
        ∙ ap all_named (parameters-first order s p (left - 2))
        ∙ sym (ap (λ (n : ℕ). first (eqb n 0) (is_empty behind)) read)

    pub naming-next : (name ≡ 0 → ⊥) → Naming order s (p + 8) (left - 2)
    naming-next n =
        record {
          near = omega (arith, now.near);
          rest = by_first ∙ ap (λ (u : Bool). first u (is_empty behind)) (ne_eqb name 0 n);
        }

    module _ (unnamed : name ≡ 0) where
      by_last : all ≡ first true (is_empty behind)
      by_last = by_first ∙ ap (λ (u : Bool). first u (is_empty behind)) (eq-eqb name 0 unnamed)

      pub naming-inner : 4 ≤ left → false ≡ all
      naming-inner h = sym (by_last ∙ ap (first true) (parameters-more order s (p + 8) (left - 2) (omega arith)))

      pub naming-last : left < 4 → {t : ℕ} → t ≡ word_at order s (p + 4) → eqb t 0 ≡ all
      naming-last h {t} word =
          let none : behind ≡ [] = parameters-few order s (p + 8) (left - 2) (omega arith) in
          ap (λ (x : ℕ). eqb x 0) word
          ∙ sym (by_last ∙ ap (λ (qs : List Parameter). (is_empty qs && eqb type 0 && true) && all_named qs) none ∙ and-nothing (eqb type 0))
        where
          and-nothing : (t : Bool) → (t && true) && true ≡ t
          and-nothing true = refl
          and-nothing false = refl
