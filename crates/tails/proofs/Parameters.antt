-- What is left of a prototype's parameters: the rule for those from here on is the rule for all, where the ones passed have a type.
-- Assumes nothing.
use Prim.Native.Nat.{ℕ, suc, ◌+◌, ◌-◌, ◌*◌, ◌<◌, ◌≤◌}
use mathlib.Core.Path.{◌≡◌, refl, sym, ap, ◌∙◌}
use mathlib.Core.Bool.{Bool, true, false, not, ◌&&◌, ◌||◌}
use mathlib.Core.List.{List}
use native.Mathlib.Omega.{arith}
use borrow.Author.Tests.{eq-eqb, ne_eqb}
use lib.Dec.{eqb}
use Rattle.paper.proofs.basics.Choices.{and-nothing}
use Rattle.paper.specs.rules.Choice.{is_empty}
use Rattle.paper.specs.terms.Reading.{words_from}
use Rattle.paper.specs.rules.Tails.{Parameter, parameters_in, is_last00, voids_last}
use Rattle.paper.specs.declared.Order.{Order}
use Rattle.paper.specs.rules.Word.{word_at}
use Rattle.tails.specs.Voids.{voids_last_from}

module _ (order : Order) (s : List ℕ) where
  abbrev at : ℕ → ℕ
  at p = word_at order s p

  -- so many parameters from a place on
  abbrev parameters : ℕ → ℕ → List Parameter
  parameters p n = parameters_in (words_from order s p (2 * n))

  two : (n : ℕ) → 2 * suc n ≡ suc (suc (2 * n))
  two n = omega arith

  -- whether any is left
  parameters-some : (p n : ℕ) → is_empty (parameters p (suc n)) ≡ false
  parameters-some p n = ap (λ (m : ℕ). is_empty (parameters_in (words_from order s p m))) (two n)

  -- the first, and those behind it
  voids-first : (p n : ℕ)
      → voids_last_from order s p (suc n)
      ≡ (not (eqb (at (p + 4)) 0) || (is_empty (parameters (p + 4 + 4) n) && eqb (at (p + 4)) 0 && eqb (at p) 0)) && voids_last_from order s (p + 4 + 4) n
  unfolding voids_last_from is_last00
  voids-first p n = ap (λ (m : ℕ). voids_last (parameters_in (words_from order s p m))) (two n)

  voids-typed : (p n : ℕ) → (at (p + 4) ≡ 0 → ⊥) → voids_last_from order s p (suc n) ≡ voids_last_from order s (p + 4 + 4) n
  voids-typed p n h =
      voids-first p n
      ∙ ap (λ (t : Bool). (not t || (is_empty (parameters (p + 4 + 4) n) && t && eqb (at p) 0)) && voids_last_from order s (p + 4 + 4) n) (ne_eqb (at (p + 4)) 0 h)

  voids-void : (p n : ℕ) → at (p + 4) ≡ 0
      → voids_last_from order s p (suc n) ≡ is_empty (parameters (p + 4 + 4) n) && true && eqb (at p) 0 && voids_last_from order s (p + 4 + 4) n
  voids-void p n h =
      voids-first p n
      ∙ ap (λ (t : Bool). (not t || (is_empty (parameters (p + 4 + 4) n) && t && eqb (at p) 0)) && voids_last_from order s (p + 4 + 4) n) (eq-eqb (at (p + 4)) 0 h)

  -- of the last, type 0 asks for name 0
  voids-last : (p : ℕ) → at (p + 4) ≡ 0 → voids_last_from order s p 1 ≡ eqb (at p) 0
  unfolding voids_last_from
  voids-last p h = voids-void p 0 h ∙ and-nothing (eqb (at p) 0)

  -- and where another follows it is refused
  voids-inner : (p n : ℕ) → at (p + 4) ≡ 0 → voids_last_from order s p (suc (suc n)) ≡ false
  voids-inner p n h =
      voids-void p (suc n) h
      ∙ ap (λ (t : Bool). t && true && eqb (at p) 0 && voids_last_from order s (p + 4 + 4) (suc n)) (parameters-some (p + 4 + 4) n)

-- so many parameters of n are passed: those from here on are asked what all are asked
pub record Asking (order : Order) (s : List ℕ) (n i : ℕ) : Type 0 where
  pub left : ℕ
  pub whole : i + left ≡ n
  pub rest : voids_last_from order s 12 n ≡ voids_last_from order s (12 + 8 * i) left

pub asking-start : (order : Order) (s : List ℕ) (n : ℕ) → Asking order s n 0
asking-start order s n = record { left = n; whole = omega arith; rest = refl }

module _ {order : Order} {s : List ℕ} {n i : ℕ} (now : Asking order s n i) where
  pub asking-done : n ≤ i → true ≡ voids_last_from order s 12 n
  unfolding voids_last_from
  asking-done h = let none : now.left ≡ 0 = omega (arith, now.whole) in sym (now.rest ∙ ap (voids_last_from order s (12 + 8 * i)) none)

  module _ {t : ℕ} (type : t ≡ word_at order s (12 + 8 * i + 4)) where
    pub asking-inner : i < n → t ≡ 0 → (i + 1 ≡ n → ⊥) → false ≡ voids_last_from order s 12 n
    asking-inner some e more =
        let two : now.left ≡ suc (suc (now.left - 2)) = omega (arith, now.whole) in
        sym (now.rest ∙ ap (voids_last_from order s (12 + 8 * i)) two ∙ voids-inner order s (12 + 8 * i) (now.left - 2) (sym type ∙ e))

    pub asking-last : t ≡ 0 → i + 1 ≡ n → {name : ℕ} → name ≡ word_at order s (12 + 8 * i) → eqb name 0 ≡ voids_last_from order s 12 n
    asking-last e last name =
        let one : now.left ≡ 1 = omega (arith, now.whole) in
        ap (λ (m : ℕ). eqb m 0) name
        ∙ sym (now.rest ∙ ap (voids_last_from order s (12 + 8 * i)) one ∙ voids-last order s (12 + 8 * i) (sym type ∙ e))

    pub asking-next : i < n → (t ≡ 0 → ⊥) → Asking order s n (i + 1)
    asking-next some h =
        let one : now.left ≡ suc (now.left - 1) = omega (arith, now.whole) in
        let next : 12 + 8 * i + 4 + 4 ≡ 12 + 8 * (i + 1) = omega arith in
        record {
          left = now.left - 1;
          whole = omega (arith, now.whole);
          rest =
              now.rest
              ∙ ap (voids_last_from order s (12 + 8 * i)) one
              ∙ voids-typed order s (12 + 8 * i) (now.left - 1) (λ e. h (type ∙ e))
              ∙ ap (λ (q : ℕ). voids_last_from order s q (now.left - 1)) next;
        }
