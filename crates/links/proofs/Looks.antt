-- A look along the slots of a record for the next type that is not done.
-- Assumes nothing.
use Rattle.std.specs.Prelude.{None}
use Prim.Native.Nat.{ℕ, zero, suc, ◌+◌, ◌*◌, ◌≤◌, ◌<◌}
use mathlib.Core.Path.{◌≡◌, refl, sym, ap, ◌∙◌, subst}
use mathlib.Core.Bool.{Bool, true, false, not, cond, ◌&&◌, false≢true}
use mathlib.Core.List.{List, [], ◌∷◌}
use mathlib.Core.List.Memᴰ
use mathlib.Core.List.{Memᴰ}
use mathlib.Core.Logic.{◌⊎◌, inl, inr, ⊎_elim}
use native.Mathlib.Omega.{arith}
use borrow.Author.Tests.{eqb-false, eq-eqb, ne_eqb, leb-true, ltb-true, ltb-false}
use lib.Dec.{eqb, leb, ltb}
use lib.ListN.{get_or, drop}
use Rattle.kindrows.specs.Codes.{held_place}
use Rattle.paper.proofs.basics.Rows.{row_of-every}
use Rattle.paper.specs.rules.Chain.{step_to}
use Rattle.paper.specs.rules.Kind.{Row, rows, row_of}
use Rattle.paper.specs.terms.Reading.{record_in}
use Rattle.paper.specs.rules.Table.{Record, kind_in}
use Rattle.paper.specs.declared.Order.{Order}
use Rattle.paper.specs.rules.Word.{word_at}
use Rattle.links.specs.Holding.{slots_of, slot_count, types_in, held_from, is_open, NextOpen, HeldIs}
use Rattle.recall.specs.Recall.{first_telling}
use Rattle.links.proofs.Holds.{length-slots, slots-few, held_from-step, held_from-end}

-- what was read of the record that some bytes begin with: where its slots stand, and how many there are
pub record Slots (order : Order) (s : List ℕ) (place end : ℕ) : Type 0 where
  pub from_place : place ≡ held_place (row_of (kind_in (word_at order s 4)))
  pub many : end ≡ slot_count place (word_at order s 4)

pub slots_read : (order : Order) (s : List ℕ) {w k place end : ℕ} → w ≡ word_at order s 4 → k ≡ kind_in w → place ≡ held_place (row_of k) → end ≡ slot_count place w
    → Slots order s place end
slots_read order s {place = place} w k p e =
    record { from_place = p ∙ ap (λ (j : ℕ). held_place (row_of j)) (k ∙ ap kind_in w); many = e ∙ ap (slot_count place) w }

-- all that is held by the slots from one to another is done
pub record Looking (order : Order) (s work : List ℕ) (place end from i : ℕ) : Type 0 where
  pub slots : Slots order s place end
  pub passed : (x : ℕ) → Memᴰ x (held_from (record_in order s) from) → (first_telling ≤ get_or work x 0) ⊎ Memᴰ x (held_from (record_in order s) i)

pub looking-start : (order : Order) (s work : List ℕ) {place end : ℕ} (from : ℕ) → Slots order s place end → Looking order s work place end from from
looking-start order s work from h = record { slots = h; passed = λ x m. inr m }

-- what is held from a slot on is held
pub types_in-drop : (j : ℕ) (ws : List ℕ) (u : ℕ) → Memᴰ u (types_in (drop j ws)) → Memᴰ u (types_in ws)
types_in-drop zero ws u m = m
types_in-drop (suc j) [] u m = m
types_in-drop (suc j) (w ∷ ws) u m = go (eqb w 0) (types_in-drop j ws u m)
  where
    go : (z : Bool) → Memᴰ u (types_in ws) → Memᴰ u (cond z (types_in ws) (w ∷ types_in ws))
    go true later = later
    go false later = Memᴰ.tail later

module _ {order : Order} {s work : List ℕ} {place end from i : ℕ} (look : Looking order s work place end from i) where
  abbrev r : Record
  r = record_in order s

  end-here : end ≡ slot_count (held_place (row_of (kind_in (word_at order s 4)))) (word_at order s 4)
  end-here = look.slots.many ∙ ap (λ (p : ℕ). slot_count p (word_at order s 4)) look.slots.from_place

  -- few slots, at small places
  pub looking-few : (end ≤ 65535) × (place ≤ 16)
  looking-few = (omega (arith, end-here, length-slots order s, slots-few order s), omega (arith, look.slots.from_place, place-low))
    where
      place-low : held_place (row_of (kind_in (word_at order s 4))) ≤ 16
      place-low = leb-true _ _ (row_of-every (λ (r : Row). leb (held_place r) 16) (unfold rows in refl) (kind_in (word_at order s 4)))

  module _ (more : i < end) {u : ℕ} (read : u ≡ word_at order s (place + 12 * i)) where
    step : held_from r i ≡ step_to u (held_from r (i + 1))
    step =
        held_from-step order s i (omega (arith, end-here))
        ∙ ap (λ (w : ℕ). step_to w (held_from r (i + 1))) (ap (λ (p : ℕ). word_at order s (p + 12 * i)) (sym look.slots.from_place) ∙ sym read)

    -- one of those that are left is this one, or stands behind it
    one_more : (x : ℕ) → Memᴰ x (held_from r i) → ((x ≡ u) × (u ≡ 0 → ⊥)) ⊎ Memᴰ x (held_from r (i + 1))
    one_more x m = go (eqb u 0) refl (subst (Memᴰ x) step m)
      where
        go : (z : Bool) → eqb u 0 ≡ z → Memᴰ x (cond z (held_from r (i + 1)) (u ∷ held_from r (i + 1))) → ((x ≡ u) × (u ≡ 0 → ⊥)) ⊎ Memᴰ x (held_from r (i + 1))
        go true e m = inr m
        go false e m = ⊎_elim (λ (same : x ≡ u). inl (same, eqb-false u 0 e)) (λ l. inr l) (Memᴰ.cases_cons m)

    module _ {z : Bool} (asked : z ≡ is_open work u) where
      -- not open, and no void: done
      closed-done : z ≡ false → (u ≡ 0 → ⊥) → first_telling ≤ get_or work u 0
      closed-done e n = ltb-false (get_or work u 0) first_telling (sym (ap (λ (b : Bool). not b && ltb (get_or work u 0) first_telling) (ne_eqb u 0 n)) ∙ sym asked ∙ e)

      pub looking-next : z ≡ false → Looking order s work place end from (i + 1)
      looking-next e =
          record {
            slots = look.slots;
            passed = λ x m. ⊎_elim (λ d. inl d)
                (λ l. ⊎_elim (λ (h : (x ≡ u) × (u ≡ 0 → ⊥)). inl (subst (λ (y : ℕ). first_telling ≤ get_or work y 0) (sym h.0) (closed-done e h.1))) (λ k. inr k) (one_more x l))
                (look.passed x m);
          }

      -- open: no void, and not done
      open-some : z ≡ true → u ≡ 0 → ⊥
      open-some e n = false≢true (sym (ap (λ (b : Bool). not b && ltb (get_or work u 0) first_telling) (eq-eqb u 0 n)) ∙ sym asked ∙ e)

      open-low : z ≡ true → get_or work u 0 < first_telling
      open-low e = ltb-true (get_or work u 0) first_telling (sym (ap (λ (b : Bool). not b && ltb (get_or work u 0) first_telling) (ne_eqb u 0 (open-some e))) ∙ sym asked ∙ e)

      pub looking-found : z ≡ true → NextOpen r work from u (i + 1)
      unfolding held_from
      looking-found e =
          record {
            held =
                types_in-drop i (slots_of r) u
                (subst (Memᴰ u) (sym (step ∙ ap (λ (b : Bool). cond b (held_from r (i + 1)) (u ∷ held_from r (i + 1))) (ne_eqb u 0 (open-some e)))) (Memᴰ.head refl));
            unfinished = open-low e;
            passed = λ x m. ⊎_elim (λ d. inl d) (λ l. inr (⊎_elim (λ (h : (x ≡ u) × (u ≡ 0 → ⊥)). inl h.0) (λ k. inr k) (one_more x l))) (look.passed x m);
            inside = omega (arith, end-here, length-slots order s);
          }

  pub looking-done : end ≤ i → HeldIs r work from None
  looking-done h x m =
      ⊎_elim (λ d. d) (λ l. absurd (Memᴰ.not-nil (subst (Memᴰ x) (held_from-end order s i (omega (arith, end-here))) l))) (look.passed x m)
