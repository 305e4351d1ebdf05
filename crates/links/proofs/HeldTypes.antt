-- What is held in a blob whose types phases 1 to 4 have passed: types of the table, found behind few slots.
-- Assumes nothing.
use Rattle.std.specs.Prelude.{Option as RustOption, ℕ}
use Rattle.paper.specs.declared.TypeNo.{TypeNo}
use Prim.Native.Nat.{ℕ, ◌≤◌, ◌<◌}
use mathlib.Core.Path.{◌≡◌, sym, subst}
use mathlib.Core.Bool.{true}
use mathlib.Core.List.{List, Memᴰ}
use mathlib.Core.Option.{none}
use native.Mathlib.Omega.{arith}
use borrow.Author.Tests.{not-false}
use lib.ListN.{length}
use Rattle.paper.specs.rules.Chain.{held_by}
use Rattle.paper.specs.rules.Gate.{over_types, phase4}
use Rattle.paper.specs.rules.Limits.{type_limit}
use Rattle.paper.specs.rules.References.{refs_ok, ref_bad}
use Rattle.paper.specs.rules.Table.{Record, Table, count, record_at, roles_of, words_of}
use Rattle.paper.proofs.gates.Gates.{over_types-silent}
use Rattle.paper.proofs.walks.Insides.{held-inside}
use Rattle.links.specs.Holding.{slots_of, held_from, HeldIs, NextOpen}
use Rattle.links.proofs.Holds.{held_in-slots}
use Rattle.links.specs.Search.{most_slots, many_slots, Followable}

module _ (T : Table) where
  pub held-from-first : (t : ℕ) → held_from (record_at T t) 0 ≡ held_by T t
  unfolding held_from held_by
  held-from-first t = sym (held_in-slots (roles_of (record_at T t)) (words_of (record_at T t)))

-- ── the answer of a look along the slots of a type ──

pub told : (work : List ℕ) (j : ℕ) {q r : Record} {h g : RustOption (TypeNo × ℕ)} → q ≡ r → h ≡ g → HeldIs q work j h → HeldIs r work j g
told work j {h = h} e d is = subst (HeldIs _ work j) d (subst (λ (r : Record). HeldIs r work j h) e is)

-- ── after phase 4 ──

-- where phase 4 says nothing, every reference is good
pub silent-refs : (T : Table) → over_types phase4 T ≡ none → (t : ℕ) → 1 ≤ t → t ≤ count T → refs_ok T (record_at T t) ≡ true
unfolding phase4 ref_bad
silent-refs T e t low high = not-false (refs_ok T (record_at T t)) (over_types-silent T phase4 e t low high).0

pub followable : (T : Table) {work : List ℕ} {n : ℕ} → n ≡ count T → n ≤ type_limit → ((t : ℕ) → length (slots_of (record_at T t)) ≤ most_slots) → n < length work
    → over_types phase4 T ≡ none
    → Followable T n work
followable T counted few slots room e =
    record { counted = counted; few = few; slots = slots; refs = λ t low high. silent-refs T e t low (omega arith); room = room }

module _ {T : Table} {work : List ℕ} {n : ℕ} (f : Followable T n work) where
  pub few-types : n ≤ type_limit
  few-types = f.few

  pub held_types : (t u : ℕ) → Memᴰ u (held_by T t) → (1 ≤ u) × (u ≤ n)
  held_types t u m =
      let c = f.counted in
      let h = held-inside T (λ s low high. f.refs s low (omega arith)) t u m in
      (h.2.0, omega arith)

  module _ (t : ℕ) {marks : List ℕ} {j u k : ℕ} (next : NextOpen (record_at T t) marks j u k) where
    pub next-held : Memᴰ u (held_by T t)
    next-held = subst (Memᴰ u) (held-from-first T t) next.held

    pub next-type : (1 ≤ u) × (u ≤ n)
    next-type = held_types t u next-held

    pub next_small : k < many_slots
    next_small = omega (arith, next.inside, f.slots t)
