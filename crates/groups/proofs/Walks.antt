-- Laws of the walk of a part: records, groups, and the part itself, each step by what is left of the work.
-- Assumes nothing.
use Rattle.std.specs.Prelude.{Err, Ok, Result}
use Prim.Native.Nat.{ℕ, suc, ◌+◌, ◌-◌, ◌*◌, ◌≤◌, ◌<◌}
use mathlib.Core.Path.{◌≡◌, refl, sym, ap, ◌∙◌}
use mathlib.Core.Bool.{Bool, true, false, not, cond, ◌&&◌}
use mathlib.Core.List.{List, []}
use mathlib.Core.Option.{Option, none, some}
use native.Mathlib.Nat.{mul-le-mul, suc-mul}
use native.Mathlib.Omega.{arith}
use borrow.Author.Tests.{lt-leb, le-leb, lt-ltb, le-ltb, eq-eqb, ne_eqb}
use lib.Dec.{eqb, leb, ltb}
use Rattle.exts.proofs.ItemFaults.{first_fault-append, first_fault-named}
use Rattle.exts.specs.Ext.{first_fault, fault_number, judged_number}
use Rattle.exts.specs.Items.{Item, entries_from, group_name, group_count, group_end, group_ok, group_then, groups_from}
use Rattle.exts.specs.Sorts.{size_ok}
use Rattle.exts.specs.declared.Fault.{Fault}
use Rattle.exts.specs.declared.Fault.TheVariants.{RecordSize, Group, Named}
use Rattle.exts.specs.declared.Sort.{Sort}
use Rattle.exts.proofs.Remains.{Left, left-done, left-turn, left-next, part_items-empty, part_items-size, part_items-groups}
use Rattle.groups.specs.Walking.{entry_fault, entries_fault, GroupIn, group_fault, TurnBad, TurnNext, groups_fault, part_fault}
use Rattle.paper.specs.rules.Choice.{or_else}
use Rattle.paper.specs.rules.Header.{order_of}
use Rattle.paper.specs.rules.Table.{Table}
use Rattle.paper.specs.rules.Word.{word_at}

-- a fault that is found is the number that is said
pub fault-said : {r : Result (Unit {0}) Fault} {o : Option ℕ} → judged_number r ≡ o → (f : Fault) → r ≡ Err f → o ≡ some (fault_number f)
unfolding judged_number
fault-said e f is = sym e ∙ ap judged_number is

pub sound-said : {r : Result (Unit {0}) Fault} {o : Option ℕ} → judged_number r ≡ o → r ≡ (Ok (record {})) → o ≡ none
unfolding judged_number
sound-said e is = sym e ∙ ap judged_number is

-- ── so many records, of which some are left ──

pub record Entering (T : Table) (long : ℕ) (s : List ℕ) (sort : Sort) (size count at p left : ℕ) : Type 0 where
  pub rest : entries_fault T long s sort size count at ≡ entries_fault T long s sort size left p
  pub near : p + left * size ≤ 1000000

-- a record in front of the others
pub one_less : (left size : ℕ) → 0 < left → left * size ≡ (left - 1) * size + size
one_less left size h = let e : left ≡ suc (left - 1) = omega arith in ap (λ (n : ℕ). n * size) e ∙ suc-mul (left - 1) size

module _ {T : Table} {long : ℕ} {s : List ℕ} {sort : Sort} {size count at p left : ℕ} (i : Entering T long s sort size count at p left) where
  pub entering-done : left ≤ 0 → judged_number (Ok (record {})) ≡ entries_fault T long s sort size count at
  unfolding judged_number
  entering-done h = let z : left ≡ 0 = omega arith in sym (i.rest ∙ ap (λ (n : ℕ). entries_fault T long s sort size n p) z)

  module _ (more : 0 < left) where
    step : entries_fault T long s sort size count at ≡ or_else (entry_fault T long s sort p) (entries_fault T long s sort size (left - 1) (p + size))
    step = let e : left ≡ suc (left - 1) = omega arith in i.rest ∙ ap (λ (n : ℕ). entries_fault T long s sort size n p) e

    pub entering-room : p + size + (left - 1) * size ≤ 1000000
    entering-room = omega (arith, one_less left size more, i.near)

    module _ {r : Result (Unit {0}) Fault} (told : judged_number r ≡ entry_fault T long s sort p) where
      pub entering-bad : (f : Fault) → r ≡ Err f → judged_number (Err f) ≡ entries_fault T long s sort size count at
      unfolding judged_number
      entering-bad f is =
          sym (step ∙ ap (λ (o : Option ℕ). or_else o (entries_fault T long s sort size (left - 1) (p + size))) (fault-said told f is))

      pub entering-next : r ≡ (Ok (record {})) → Entering T long s sort size count at (p + size) (left - 1)
      entering-next is =
          record {
            rest = step ∙ ap (λ (o : Option ℕ). or_else o (entries_fault T long s sort size (left - 1) (p + size))) (sound-said told is);
            near = entering-room;
          }

-- ── a group ──

-- a count times a size fits 64 bits
pub product-fits : {n m : ℕ} → n < 4294967296 → m < 4294967296 → n * m < 18446744073709551616
product-fits {n} {m} h k = omega (arith, mul-le-mul {n₁ = n} {m₁ = m} {n₂ = 4294967295} {m₂ = 4294967295} (omega arith) (omega arith))

module _ (s : List ℕ) (size at end : ℕ) where
  pub group-cut : end < at + 8 → group_ok s size at end ≡ false
  unfolding group_ok
  group-cut h = rw (lt-leb (at + 8) end h) refl

  module _ (head : at + 8 ≤ end) {count : ℕ} (counted : count ≡ group_count s at) where
    by_count : group_ok s size at end ≡ not (eqb count 0) && leb (at + 8 + count * size) end
    unfolding group_ok
    by_count =
        ap (λ (z : Bool). z && not (eqb (group_count s at) 0) && leb (group_end s size at) end) (le-leb (at + 8) end head)
        ∙ ap (λ (n : ℕ). not (eqb n 0) && leb (at + 8 + n * size) end) (sym counted)

    pub group-none : count ≡ 0 → group_ok s size at end ≡ false
    group-none e = by_count ∙ ap (λ (z : Bool). not z && leb (at + 8 + count * size) end) (eq-eqb count 0 e)

    module _ (several : count ≡ 0 → ⊥) where
      counts : group_ok s size at end ≡ leb (at + 8 + count * size) end
      counts = by_count ∙ ap (λ (z : Bool). not z && leb (at + 8 + count * size) end) (ne_eqb count 0 several)

      pub group-long : end < at + 8 + count * size → group_ok s size at end ≡ false
      group-long h = counts ∙ lt-leb (at + 8 + count * size) end h

      pub group-in : {name : ℕ} → name ≡ group_name s at → at + 8 + count * size ≤ end → GroupIn s size at end name count (at + 8 + count * size)
      group-in named h =
          record {
            fits = counts ∙ le-leb (at + 8 + count * size) end h;
            named = named;
            counted = counted;
            ends = ap (λ (n : ℕ). at + 8 + n * size) counted;
            inside = h;
          }

-- its records stand inside
pub group-room : {s : List ℕ} {size at end name count next : ℕ} → GroupIn s size at end name count next → at + 8 + count * size ≤ end
group-room {s} {size} {at} g = let e = ap (λ (n : ℕ). at + 8 + n * size) g.counted in omega (arith, g.ends, g.inside)

module _ (T : Table) (long : ℕ) (s : List ℕ) (sort : Sort) (size at end : ℕ) where
  pub turn-broken : group_ok s size at end ≡ false → TurnBad T long s sort size at end Group
  unfolding fault_number
  turn-broken e = record { is = λ rest. ap (λ (ok : Bool). first_fault long T (group_then s sort size at ok rest)) e }

  module _ {name count next : ℕ} (g : GroupIn s size at end name count next) where
    -- its name, its records, and what stands behind it
    in_order : (rest : ℕ → List Item)
        → group_fault T long s sort size at end rest
        ≡ or_else (cond (not (ltb name long)) (some 47) none) (or_else (entries_fault T long s sort size count (at + 8)) (first_fault long T (rest next)))
    in_order rest =
        ap (λ (ok : Bool). first_fault long T (group_then s sort size at ok rest)) g.fits
        ∙ ap (or_else (cond (not (ltb (group_name s at) long)) (some 47) none))
        (first_fault-append long T (entries_from s sort size (group_name s at) (group_count s at) (at + 8)) (rest (group_end s size at))
        ∙ ap (λ (o : Option ℕ). or_else o (first_fault long T (rest (group_end s size at)))) (first_fault-named long T s sort size (group_name s at) 0 (group_count s at) (at + 8)))
        ∙ (λ i. or_else (cond (not (ltb (sym g.named i) long)) (some 47) none)
        (or_else (entries_fault T long s sort size (sym g.counted i) (at + 8)) (first_fault long T (rest (sym g.ends i)))))

    pub turn-named : long ≤ name → TurnBad T long s sort size at end Named
    unfolding fault_number
    turn-named h =
        record {
          is = λ rest.
              in_order rest
              ∙ ap (λ (z : Bool). or_else (cond (not z) (some 47) none) (or_else (entries_fault T long s sort size count (at + 8)) (first_fault long T (rest next))))
              (le-ltb name long h);
        }

    module _ (below : name < long) where
      behind-name : (rest : ℕ → List Item)
          → group_fault T long s sort size at end rest ≡ or_else (entries_fault T long s sort size count (at + 8)) (first_fault long T (rest next))
      behind-name rest =
          in_order rest
          ∙ ap (λ (z : Bool). or_else (cond (not z) (some 47) none) (or_else (entries_fault T long s sort size count (at + 8)) (first_fault long T (rest next))))
          (lt-ltb name long below)

      module _ {r : Result (Unit {0}) Fault} (told : judged_number r ≡ entries_fault T long s sort size count (at + 8)) where
        pub turn-bad : (f : Fault) → r ≡ Err f → TurnBad T long s sort size at end f
        turn-bad f is = record { is = λ rest. behind-name rest ∙ ap (λ (o : Option ℕ). or_else o (first_fault long T (rest next))) (fault-said told f is) }

        pub turn-next : r ≡ (Ok (record {})) → TurnNext T long s sort size at end next
        turn-next is =
            record {
              is = λ rest. behind-name rest ∙ ap (λ (o : Option ℕ). or_else o (first_fault long T (rest next))) (sound-said told is);
              later = omega (arith, g.ends);
              inside = g.inside;
            }

-- ── the groups of a part ──

pub groups-done : {s : List ℕ} {sort : Sort} {size end p : ℕ} {whole : Option ℕ} {f : List Item → Option ℕ} → Left s sort size end p whole f → f [] ≡ none
    → end ≤ p → judged_number (Ok (record {})) ≡ whole
unfolding judged_number
groups-done i e h = sym (left-done i h ∙ e)

module _ {T : Table} {long : ℕ} {s : List ℕ} {sort : Sort} {size end p : ℕ} {whole : Option ℕ} (i : Left s sort size end p whole (first_fault long T))
    (more : p < end) where
  pub groups-bad : {f : Fault} → TurnBad T long s sort size p end f → judged_number (Err f) ≡ whole
  unfolding judged_number
  groups-bad t = sym (left-turn i more ∙ t.is (λ (next : ℕ). groups_from s (i.fuel - 1) sort size next end))

  pub groups-next : {next : ℕ} → TurnNext T long s sort size p end next → Left s sort size end next whole (first_fault long T)
  groups-next t = left-next i more t.later t.is

-- ── a part ──

module _ (T : Table) (long : ℕ) (s : List ℕ) (sort : Sort) (from end : ℕ) where
  pub part-empty : end ≤ from → judged_number (Ok (record {})) ≡ part_fault T long s sort from end
  unfolding judged_number
  part-empty h = sym (ap (first_fault long T) (part_items-empty s sort h))

  module _ (filled : from < end) {size : ℕ} (sized : size ≡ word_at (order_of s) s from) {ok : Bool} (asked : ok ≡ size_ok sort size) where
    pub part-size : not ok ≡ true → judged_number (Err RecordSize) ≡ part_fault T long s sort from end
    unfolding judged_number fault_number
    part-size n = sym (ap (first_fault long T) (part_items-size s sort filled sized asked n))

    pub part-groups : not ok ≡ false → groups_fault T long s sort size (from + 4) end ≡ part_fault T long s sort from end
    part-groups n = sym (ap (first_fault long T) (part_items-groups s sort filled sized asked n))
