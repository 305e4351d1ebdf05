-- Phase 4 over the types in order, and both phases together.
-- Assumes nothing.
use Rattle.std.specs.Prelude.{Err, None, Ok, Option as RustOption, Result, Some}
use Rattle.links.specs.declared.whole.Unlinked.TheVariants.{Endless, Reference}
use Rattle.links.specs.declared.whole.Unlinked.{Unlinked}
use Prim.Native.Nat.{ℕ, suc, ◌≤◌, ◌<◌}
use mathlib.Core.Path.{◌≡◌, refl, sym, ap, ap₂, ◌∙◌, subst}
use mathlib.Core.Bool.{Bool, true, false, not, cond, ◌&&◌}
use mathlib.Core.List.{List, [], ◌∷◌}
use mathlib.Core.Option.{Option, none, some}
use native.Mathlib.Omega.{arith}
use borrow.Author.Tests.{le-leb, lt-leb, le-ltb, lt-ltb}
use lib.Dec.{eqb, ltb}
use lib.ListN.{length, get_or, length-replicate}
use Rattle.paper.specs.rules.Answer.{Answer}
use Rattle.paper.specs.rules.Choice.{◌when◌, first_due, or_else}
use Rattle.paper.specs.rules.Gate.{naming_at, first_of, over_types, phase4, phase5, zeros}
use Rattle.paper.specs.rules.Limits.{type_limit}
use Rattle.paper.specs.rules.References.{refs_ok, ref_bad}
use Rattle.paper.specs.rules.Table.{Record, Table, count, record_at}
use Rattle.paper.specs.rules.Walk.{place_at}
use Rattle.views.proofs.Shows.{table_by-count, bytes_by-record}
use Rattle.views.specs.Shown.{table_by, bytes_by}
use Rattle.views.specs.declared.View.{View}
use Rattle.links.specs.Holding.{slots_of}
use Rattle.links.specs.Links.{linked_as_paper, searched, links_say, Leaves, LinksOf, BothOf}
use Rattle.links.specs.Search.{most_slots, Unsearched, mark_at, RingLeaves, RingsOf, ring_as_paper}
use Rattle.links.proofs.Roots.{get_d-zeros}
use Rattle.paper.specs.declared.TypeNo.{TypeNo}
use Rattle.links.proofs.HeldTypes.{followable}
use Rattle.links.proofs.Holds.{slots-few}

-- ── phase 4 ──

-- what it says of a type, from whether the references of its record are good
pub refs-due : (T : Table) (t : ℕ) {r : Record} {z b : Bool} → r ≡ record_at T t → z ≡ refs_ok T r → not z ≡ b
    → naming_at t (place_at T t) (first_due (13 when b ∷ [])) ≡ naming_at t (place_at T t) (first_due (phase4 T t))
unfolding phase4 ref_bad
refs-due T t read asked e =
    ap (λ (x : Bool). naming_at t (place_at T t) (first_due (13 when x ∷ []))) (sym e ∙ ap not (asked ∙ ap (refs_ok T) read))

-- of as many types as there are, it is what the phase says
pub over-all : (T : Table) {n : ℕ} → n ≡ count T → first_of (place_at T) (phase4 T) n 1 ≡ over_types phase4 T
unfolding over_types
over-all T e = ap (λ (m : ℕ). first_of (place_at T) (phase4 T) m 1) e

-- ── both ──

-- no record that an index shows has many slots
pub shown-few : (base b index : List ℕ) (v : View) (t : ℕ) → length (slots_of (record_at (table_by base b index v) t)) ≤ most_slots
shown-few base b index v t =
    let same = ap (λ (r : Record). length (slots_of r)) (bytes_by-record base b index v t) in
    omega (arith, same, slots-few v.order (bytes_by base b index v t))

pub searchable : (base b index : List ℕ) (v : View) {work : List ℕ} → (size : ℕ) → work ≡ zeros size → v.n ≤ type_limit → v.n < size → {r : Result (Unit {0}) Unlinked}
    → linked_as_paper (table_by base b index v) r ≡ over_types phase4 (table_by base b index v) → r ≡ (Ok (record {})) → Unsearched (table_by base b index v) v.n work
searchable base b index v size e few room says is =
    let T = table_by base b index v in
    let long = ap length e ∙ length-replicate {A = ℕ} size 0 in
    record {
      ready = followable T (sym (table_by-count base b index v)) few (shown-few base b index v) (omega arith) (sym says ∙ ap (linked_as_paper T) is);
      unmarked = e ∙ ap zeros (sym long);
    }

-- a slice that is all 0, place by place
zeros-left : {work : List ℕ} (size : ℕ) → work ≡ zeros size → (x : ℕ) → get_or work x 0 ≡ 0
zeros-left size e x = ap (λ (w : List ℕ). get_or w x 0) e ∙ get_d-zeros size x

module _ (T : Table) (n room : ℕ) where
  not-searched : searched n room ≡ false → {work : List ℕ} (size : ℕ) → work ≡ zeros size → BothOf T n room (Ok (record {})) work
  unfolding links_say
  not-searched off size e =
      record {
        says = sym (ap (λ (z : Bool). cond z (or_else (over_types phase4 T) (over_types phase5 T)) none) off);
        leaves = λ x. zeros-left size e x ∙ sym (ap (λ (z : Bool). cond z (mark_at T n x) 0) off);
      }

  pub links-many : type_limit < n → {work : List ℕ} (size : ℕ) → work ≡ zeros size → BothOf T n room (Ok (record {})) work
  links-many h = not-searched (ap (λ (z : Bool). z && ltb n room) (lt-leb n type_limit h))

  module _ (few : n ≤ type_limit) where
    pub links-short : room ≤ n → {work : List ℕ} (size : ℕ) → work ≡ zeros size → BothOf T n room (Ok (record {})) work
    links-short h = not-searched (ap₂ (λ (a b : Bool). a && b) (le-leb n type_limit few) (le-ltb n room h))

    module _ (enough : n < room) where
      is-searched : searched n room ≡ true
      is-searched = ap₂ (λ (a b : Bool). a && b) (le-leb n type_limit few) (lt-ltb n room enough)

      links-say : links_say T n room ≡ or_else (over_types phase4 T) (over_types phase5 T)
      unfolding links_say
      links-say = ap (λ (z : Bool). cond z (or_else (over_types phase4 T) (over_types phase5 T)) none) is-searched

      -- phase 4 speaks, or else phase 5
      links-first : {o : Option Answer} → o ≡ over_types phase4 T → or_else o (over_types phase5 T) ≡ links_say T n room
      links-first e = ap (λ (o : Option Answer). or_else o (over_types phase5 T)) e ∙ sym links-say

      -- what phase 4 finds is what both say
      pub links-bad : (r : Result (Unit {0}) Unlinked) → linked_as_paper T r ≡ over_types phase4 T → {work : List ℕ} {u : Unlinked} → r ≡ Err u → BothOf T n room (Err u) work
      links-bad r bad {u = Reference _} e = record { says = links-first (sym (ap (linked_as_paper T) e) ∙ bad); leaves = tt }
      links-bad r bad {u = Endless _} e = record { says = links-first (sym (ap (linked_as_paper T) e) ∙ bad); leaves = tt }

      module _ (r : Result (Unit {0}) Unlinked) (bad : linked_as_paper T r ≡ over_types phase4 T) (good : r ≡ (Ok (record {}))) (w : RustOption TypeNo) {work : List ℕ} (found : RingsOf T n w work) where
        links-behind : ring_as_paper T w ≡ links_say T n room
        links-behind = found.says ∙ links-first (sym (ap (linked_as_paper T) good) ∙ bad)

        pub links-good : w ≡ None → BothOf T n room (Ok (record {})) work
        links-good e =
            record {
              says = sym (ap (ring_as_paper T) e) ∙ links-behind;
              leaves = λ x. subst (λ (v : RustOption TypeNo). RingLeaves T n v work) e found.leaves x ∙ sym (ap (λ (z : Bool). cond z (mark_at T n x) 0) is-searched);
            }

        pub links-endless : {t : TypeNo} → w ≡ Some t → BothOf T n room (Err (Endless t)) work
        links-endless e = record { says = sym (ap (ring_as_paper T) e) ∙ links-behind; leaves = tt }

-- ── one answer ──

linked_of : Option Answer → Result (Unit {0}) Unlinked
linked_of none = (Ok (record {}))
linked_of (some a) = cond (eqb a.number 13) (Err (Reference (record { 0 = a.t }))) (Err (Endless (record { 0 = a.t })))

linked_of-linked_as_paper : (T : Table) (r : Result (Unit {0}) Unlinked) → linked_of (linked_as_paper T r) ≡ r
unfolding linked_of
linked_of-linked_as_paper T (Ok _) = refl
linked_of-linked_as_paper T (Err (Reference t)) = refl
linked_of-linked_as_paper T (Err (Endless t)) = refl

-- two answers with the same number and type are one
linked-one : (T : Table) (x y : Result (Unit {0}) Unlinked) → linked_as_paper T x ≡ linked_as_paper T y → x ≡ y
linked-one T x y e = sym (linked_of-linked_as_paper T x) ∙ ap linked_of e ∙ linked_of-linked_as_paper T y

-- two slices of one length that agree at each place are one
same-places : (a b : List ℕ) → length a ≡ length b → ((x : ℕ) → get_or a x 0 ≡ get_or b x 0) → a ≡ b
same-places [] [] l h = refl
same-places [] (y ∷ ys) l h = absurd (omega arith)
same-places (x ∷ xs) [] l h = absurd (omega arith)
same-places (x ∷ xs) (y ∷ ys) l h = ap₂ {C = List ℕ} ◌∷◌ (h 0) (same-places xs ys (omega arith) (λ k. h (suc k)))

leaves-one : (T : Table) (n room : ℕ) (r : Result (Unit {0}) Unlinked) {work work' : List ℕ} → Leaves T n room (work ≡ zeros room) r work
    → Leaves T n room (work' ≡ zeros room) r work' → length work ≡ length work' → work ≡ work'
leaves-one T n room (Ok _) {work} {work'} h k l = same-places work work' l (λ x. h x ∙ sym (k x))
leaves-one T n room (Err _) h k l = h ∙ sym k

-- any two results that the contract allows are the same, the work slice too
pub links-one : {T : Table} {n room : ℕ} (r r' : Result (Unit {0}) Unlinked) {work work' : List ℕ} → LinksOf T n room r work → LinksOf T n room r' work' → (r ≡ r') × (work ≡ work')
links-one {T} {n} {room} r r' {work' = work'} h k =
    let same = linked-one T r r' (h.says ∙ sym k.says) in
    (same, leaves-one T n room r h.leaves (subst (λ (w : Result (Unit {0}) Unlinked). Leaves T n room (work' ≡ zeros room) w work') (sym same) k.leaves) (h.size ∙ sym k.size))

-- where something is wrong, the slice is cleared behind it
pub links-kept : {T : Table} {n room : ℕ} (r : Result (Unit {0}) Unlinked) {work : List ℕ} → BothOf T n room r work → r ≡ (Ok (record {})) → length work ≡ room → LinksOf T n room r work
links-kept {T} {n} {room} r {work} h e l =
    subst (λ (w : Result (Unit {0}) Unlinked). LinksOf T n room w work) (sym e)
    (let g = subst (λ (w : Result (Unit {0}) Unlinked). BothOf T n room w work) e h in record { says = g.says; leaves = g.leaves; size = l })

module _ {T : Table} {n room : ℕ} (r : Result (Unit {0}) Unlinked) {work work' : List ℕ} (h : BothOf T n room r work) (size : ℕ) (clear : work' ≡ zeros size) (same : size ≡ room) where
  cleared : work' ≡ zeros room
  cleared = clear ∙ ap zeros same

  long : length work' ≡ room
  long = ap length cleared ∙ length-replicate {A = ℕ} room 0

  pub links-refused : {u : Unlinked} → r ≡ Err u → LinksOf T n room r work'
  links-refused e =
      subst (λ (w : Result (Unit {0}) Unlinked). LinksOf T n room w work') (sym e) (record { says = sym (ap (linked_as_paper T) e) ∙ h.says; leaves = cleared; size = long })
