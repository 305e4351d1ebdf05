-- What is left of the groups of a part, for any question that is asked of a part's items: the one walk of all loops over groups.
-- Assumes nothing.
use Prim.Native.Nat.{ℕ, zero, suc, ◌+◌, ◌-◌, ◌≤◌, ◌<◌}
use mathlib.Core.Path.{◌≡◌, refl, sym, ap, ◌∙◌}
use mathlib.Core.Bool.{Bool, true, false, not, cond}
use mathlib.Core.List.{List, [], ◌∷◌, ◌++◌}
use native.Mathlib.Omega.{arith}
use borrow.Author.Tests.{lt-leb, le-leb, not-true, not-false}
use lib.Dec.{leb}
use Rattle.exts.specs.Items.{Item, broken, group, entries_from, group_name, group_count, group_end, group_ok, group_then, groups_from, part_items}
use Rattle.exts.specs.Sorts.{size_ok}
use Rattle.exts.specs.declared.Sort.{Sort}
use Rattle.paper.specs.rules.Header.{order_of}
use Rattle.paper.specs.rules.Word.{word_at}

-- the groups from a place on answer the question that is left as all of them answer the whole
pub record Left {A : Type 0} (s : List ℕ) (sort : Sort) (size end p : ℕ) (whole : A) (f : List Item → A) : Type 0 where
  pub fuel : ℕ
  pub enough : end ≤ p + fuel
  pub rest : whole ≡ f (groups_from s fuel sort size p end)

-- at the end nothing is left, whatever the fuel
pub groups_from-end : (s : List ℕ) (fuel : ℕ) (sort : Sort) (size p end : ℕ) → end ≤ p → groups_from s fuel sort size p end ≡ []
groups_from-end s zero sort size p end h = refl
groups_from-end s (suc fuel) sort size p end h =
    ap (λ (z : Bool). cond z [] (group_then s sort size p (group_ok s size p end) (λ (next : ℕ). groups_from s fuel sort size next end))) (le-leb end p h)

-- before it there is a group, or what is broken
pub groups_from-step : (s : List ℕ) (fuel : ℕ) (sort : Sort) (size p end : ℕ) → p < end
    → groups_from s (suc fuel) sort size p end ≡ group_then s sort size p (group_ok s size p end) (λ (next : ℕ). groups_from s fuel sort size next end)
groups_from-step s fuel sort size p end h =
    ap (λ (z : Bool). cond z [] (group_then s sort size p (group_ok s size p end) (λ (next : ℕ). groups_from s fuel sort size next end))) (lt-leb end p h)

-- the fuel never runs out: more of it reads the same
pub groups_from-fuel : (s : List ℕ) (fuel more : ℕ) (sort : Sort) (size p end : ℕ) → end ≤ p + fuel → end ≤ p + more
    → groups_from s fuel sort size p end ≡ groups_from s more sort size p end
groups_from-fuel s zero more sort size p end h k = sym (groups_from-end s more sort size p end (omega arith))
groups_from-fuel s (suc fuel) zero sort size p end h k = groups_from-end s (suc fuel) sort size p end (omega arith)
groups_from-fuel s (suc fuel) (suc more) sort size p end h k =
    ap (cond (leb end p) [])
    (same (group_ok s size p end) (groups_from-fuel s fuel more sort size (group_end s size p) end (omega arith) (omega arith)))
  where
    same : (ok : Bool) → groups_from s fuel sort size (group_end s size p) end ≡ groups_from s more sort size (group_end s size p) end
        → group_then s sort size p ok (λ (next : ℕ). groups_from s fuel sort size next end)
        ≡ group_then s sort size p ok (λ (next : ℕ). groups_from s more sort size next end)
    same true e =
        ap (λ (rest : List Item). group (group_name s p) ∷ entries_from s sort size (group_name s p) (group_count s p) (p + 8) ++ rest) e
    same false e = refl

module _ {A : Type 0} where
  pub left-start : (s : List ℕ) (sort : Sort) (size at end : ℕ) (f : List Item → A) → Left s sort size end at (f (groups_from s end sort size at end)) f
  left-start s sort size at end f = record { fuel = end; enough = omega arith; rest = refl }

  module _ {s : List ℕ} {sort : Sort} {size end p : ℕ} {whole : A} {f : List Item → A} (i : Left s sort size end p whole f) where
    pub left-done : end ≤ p → whole ≡ f []
    left-done h = i.rest ∙ ap f (groups_from-end s i.fuel sort size p end h)

    module _ (more : p < end) where
      pub left-turn : whole ≡ f (group_then s sort size p (group_ok s size p end) (λ (next : ℕ). groups_from s (i.fuel - 1) sort size next end))
      left-turn =
          let e : i.fuel ≡ suc (i.fuel - 1) = omega (arith, i.enough) in
          i.rest ∙ ap (λ (k : ℕ). f (groups_from s k sort size p end)) e ∙ ap f (groups_from-step s (i.fuel - 1) sort size p end more)

      pub left-next : {next : ℕ} {g : List Item → A} → p < next
          → ((rest : ℕ → List Item) → f (group_then s sort size p (group_ok s size p end) rest) ≡ g (rest next)) → Left s sort size end next whole g
      left-next later is =
          record {
            fuel = i.fuel - 1;
            enough = omega (arith, i.enough);
            rest = left-turn ∙ is (λ (next : ℕ). groups_from s (i.fuel - 1) sort size next end);
          }

-- ── a part: nothing, 45, or its groups ──

module _ (s : List ℕ) (sort : Sort) {from end : ℕ} where
  pub part_items-empty : end ≤ from → part_items s (record { sort = sort; from = from; end = end }) ≡ []
  unfolding part_items
  part_items-empty h = rw (le-leb end from h) refl

  module _ (filled : from < end) {size : ℕ} (sized : size ≡ word_at (order_of s) s from) {ok : Bool} (asked : ok ≡ size_ok sort size) where
    by_size : part_items s (record { sort = sort; from = from; end = end }) ≡ cond ok (groups_from s end sort size (from + 4) end) (broken 45 ∷ [])
    unfolding part_items
    by_size =
        ap (λ (z : Bool).
        cond z [] (cond (size_ok sort (word_at (order_of s) s from)) (groups_from s end sort (word_at (order_of s) s from) (from + 4) end) (broken 45 ∷ [])))
        (lt-leb end from filled)
        ∙ ap (λ (k : ℕ). cond (size_ok sort k) (groups_from s end sort k (from + 4) end) (broken 45 ∷ [])) (sym sized)
        ∙ ap (λ (z : Bool). cond z (groups_from s end sort size (from + 4) end) (broken 45 ∷ [])) (sym asked)

    pub part_items-size : not ok ≡ true → part_items s (record { sort = sort; from = from; end = end }) ≡ broken 45 ∷ []
    part_items-size n = by_size ∙ ap (λ (z : Bool). cond z (groups_from s end sort size (from + 4) end) (broken 45 ∷ [])) (not-true ok n)

    pub part_items-groups : not ok ≡ false → part_items s (record { sort = sort; from = from; end = end }) ≡ groups_from s end sort size (from + 4) end
    part_items-groups n = by_size ∙ ap (λ (z : Bool). cond z (groups_from s end sort size (from + 4) end) (broken 45 ∷ [])) (not-false ok n)
