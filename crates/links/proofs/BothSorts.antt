-- Report 14 asks walks of two sorts: the smaller of what is said by each is what is said by both.
-- Assumes nothing.
use Rattle.std.specs.Prelude.{None, Option as RustOption, Some}
use Prim.Native.Nat.{ℕ, zero, suc, ◌≤◌, ◌<◌}
use mathlib.Core.Path.{◌≡◌, refl, sym, ap, ap₂, ◌∙◌, subst}
use mathlib.Core.Bool.{Bool, true, false, cond, ◌||◌}
use mathlib.Core.List.{List, [], ◌∷◌}
use mathlib.Core.Option.{Option, none, some}
use native.Mathlib.Omega.{arith}
use borrow.Author.Tests.{le-ltb, lt-ltb}
use lib.Dec.{ltb}
use Rattle.links.proofs.Roots.{first_ring, first_ring-next}
use Rattle.links.specs.Search.{rings_by, smaller_of, ring_as_paper, RingLeaves, ChainsOf, RingsOf}
use Rattle.paper.specs.rules.Answer.{Answer, report_at}
use Rattle.paper.specs.rules.Chain.{held_by, pointed_by, walks, endless}
use Rattle.paper.specs.rules.Choice.{◌when◌, first_due, or_else}
use Rattle.paper.specs.rules.Gate.{naming_at, first_of, over_types, phase5}
use Rattle.paper.specs.rules.Table.{Table, count}
use Rattle.paper.specs.rules.Walk.{place_at}
use Rattle.paper.specs.declared.TypeNo.{TypeNo}

-- ── the answer that names the smaller type ──

abbrev smallest : Option Answer → Option Answer → Option Answer
smallest none o = o
smallest (some a) none = some a
smallest (some a) (some b) = cond (ltb b.t a.t) (some b) (some a)

-- an answer names a type from k on
abbrev FromOn : ℕ → Option Answer → Type 0
FromOn k none = Unit {0}
FromOn k (some a) = k ≤ a.t

from-earlier : (k : ℕ) (o : Option Answer) → FromOn (suc k) o → FromOn k o
from-earlier k none h = tt
from-earlier k (some a) h = omega arith

-- one that names k is smaller than one that names a type behind it
module _ (a : Answer) (o : Option Answer) (later : FromOn (suc a.t) o) where
  smallest-first : smallest (some a) o ≡ some a
  smallest-first = go o later
    where
      go : (o : Option Answer) → FromOn (suc a.t) o → smallest (some a) o ≡ some a
      go none h = refl
      go (some b) h = rw (le-ltb b.t a.t (omega arith)) refl

  smallest-second : smallest o (some a) ≡ some a
  smallest-second = go o later
    where
      go : (o : Option Answer) → FromOn (suc a.t) o → smallest o (some a) ≡ some a
      go none h = refl
      go (some b) h = rw (lt-ltb a.t b.t (omega arith)) refl

-- ── the smaller of two, as code picks it ──

module _ (a b : RustOption TypeNo) {t : TypeNo} (first : a ≡ Some t) where
  pub smaller-alone : b ≡ None → Some t ≡ smaller_of a b
  smaller-alone second = sym (ap₂ smaller_of first second)

  module _ {u : TypeNo} (second : b ≡ Some u) where
    both : smaller_of a b ≡ cond (ltb u.0 t.0) (Some u) (Some t)
    both = ap₂ smaller_of first second

    pub smaller-second : u.0 < t.0 → Some u ≡ smaller_of a b
    smaller-second h = sym (both ∙ ap (λ (z : Bool). cond z (Some u) (Some t)) (lt-ltb _ _ h))

    pub smaller-first : t.0 ≤ u.0 → Some t ≡ smaller_of a b
    smaller-first h = sym (both ∙ ap (λ (z : Bool). cond z (Some u) (Some t)) (le-ltb _ _ h))

-- ── of both sorts ──

module _ (T : Table) where
  first_ring-from : (step : Table → ℕ → List ℕ) (left k : ℕ) → FromOn k (first_ring step T left k)
  first_ring-from step zero k = tt
  first_ring-from step (suc left) k = go (walks (step T) (count T) k) refl (from-earlier k (first_ring step T left (suc k)) (first_ring-from step left (suc k)))
    where
      go : (z : Bool) → walks (step T) (count T) k ≡ z → FromOn k (first_ring step T left (suc k)) → FromOn k (first_ring step T (suc left) k)
      go true e h = rw (first_ring-next step T left k e) (omega arith)
      go false e h = rw (first_ring-next step T left k e) h

  -- what phase 5 says of so many types from k on
  abbrev first_either : ℕ → ℕ → Option Answer
  first_either left k = first_of (place_at T) (phase5 T) left k

  either-next : (left k : ℕ) (x y : Bool) → walks (held_by T) (count T) k ≡ x → walks (pointed_by T) (count T) k ≡ y
      → first_either (suc left) k ≡ cond (x || y) (some (report_at 14 k (place_at T k))) (first_either left (suc k))
  unfolding phase5 endless
  either-next left k x y e f =
      ap₂ (λ (a b : Bool). or_else (naming_at k (place_at T k) (first_due (14 when (a || b) ∷ []))) (first_either left (suc k))) e f ∙ go (x || y)
    where
      go : (b : Bool)
          → or_else (naming_at k (place_at T k) (first_due (14 when b ∷ []))) (first_either left (suc k))
          ≡ cond b (some (report_at 14 k (place_at T k))) (first_either left (suc k))
      go true = refl
      go false = refl

  first_either-smallest : (left k : ℕ) → first_either left k ≡ smallest (first_ring held_by T left k) (first_ring pointed_by T left k)
  first_either-smallest zero k = refl
  first_either-smallest (suc left) k =
      go (walks (held_by T) (count T) k) (walks (pointed_by T) (count T) k) refl refl (first_either-smallest left (suc k))
    where
      a : Answer
      a = report_at 14 k (place_at T k)

      go : (x y : Bool) → walks (held_by T) (count T) k ≡ x → walks (pointed_by T) (count T) k ≡ y
          → first_either left (suc k) ≡ smallest (first_ring held_by T left (suc k)) (first_ring pointed_by T left (suc k))
          → first_either (suc left) k ≡ smallest (first_ring held_by T (suc left) k) (first_ring pointed_by T (suc left) k)
      go x y e f later =
          either-next left k x y e f ∙ by x y later
          ∙ sym (ap₂ smallest (first_ring-next held_by T left k e) (first_ring-next pointed_by T left k f))
        where
          by : (x y : Bool) → first_either left (suc k) ≡ smallest (first_ring held_by T left (suc k)) (first_ring pointed_by T left (suc k))
              → cond (x || y) (some a) (first_either left (suc k))
              ≡ smallest (cond x (some a) (first_ring held_by T left (suc k))) (cond y (some a) (first_ring pointed_by T left (suc k)))
          by true true later = rw (le-ltb k k (omega arith)) refl
          by true false later = sym (smallest-first a (first_ring pointed_by T left (suc k)) (first_ring-from pointed_by left (suc k)))
          by false true later = sym (smallest-second a (first_ring held_by T left (suc k)) (first_ring-from held_by left (suc k)))
          by false false later = later

  smaller_of-smallest : (a b : RustOption TypeNo) → ring_as_paper T (smaller_of a b) ≡ smallest (ring_as_paper T a) (ring_as_paper T b)
  smaller_of-smallest None b = refl
  smaller_of-smallest (Some t) None = refl
  smaller_of-smallest (Some t) (Some u) = go (ltb u.0 t.0)
    where
      go : (z : Bool) → ring_as_paper T (cond z (Some u) (Some t)) ≡ cond z (ring_as_paper T (Some u)) (ring_as_paper T (Some t))
      go true = refl
      go false = refl

  -- the first of each sort give the first of both
  rings-either : (a b c : RustOption TypeNo) → ring_as_paper T a ≡ over_types (rings_by held_by) T → ring_as_paper T b ≡ over_types (rings_by pointed_by) T → c ≡ smaller_of a b
      → ring_as_paper T c ≡ over_types phase5 T
  unfolding over_types
  rings-either a b c p q e = ap (ring_as_paper T) e ∙ smaller_of-smallest a b ∙ ap₂ smallest p q ∙ sym (first_either-smallest (count T) 1)

  -- and what is left where there is none of either
  rings-leave : (n : ℕ) (a b : RustOption TypeNo) (work : List ℕ) → RingLeaves T n a work → RingLeaves T n (smaller_of a b) work
  rings-leave n None None work h = h
  rings-leave n None (Some u) work h = tt
  rings-leave n (Some t) None work h = tt
  rings-leave n (Some t) (Some u) work h = go (ltb u.0 t.0)
    where
      go : (z : Bool) → RingLeaves T n (cond z (Some u) (Some t)) work
      go true = tt
      go false = tt

  pub rings-both : {n : ℕ} (a b c : RustOption TypeNo) {work : List ℕ} → ChainsOf T n a work → ring_as_paper T b ≡ over_types (rings_by pointed_by) T → c ≡ smaller_of a b
      → RingsOf T n c work
  rings-both {n} a b c {work} p q e =
      record {
        says = rings-either a b c p.says q e;
        leaves = subst (λ (r : RustOption TypeNo). RingLeaves T n r work) (sym e) (rings-leave n a b work p.leaves);
      }
