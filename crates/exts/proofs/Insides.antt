-- Every record that a walk meets is of its part's sort and stands, with all its bytes, inside the part.
-- Assumes nothing.
use Prim.Native.Nat.{ℕ, zero, suc, ◌+◌, ◌-◌, ◌*◌, ◌≤◌, ◌<◌}
use mathlib.Core.Path.{◌≡◌, refl, sym, ap, ◌∙◌, subst}
use mathlib.Core.Bool.{Bool, true, false}
use mathlib.Core.List.{List, ◌++◌}
use mathlib.Core.Option.{none, some}
use native.Mathlib.Nat.{mul-le-mul, suc-mul}
use native.Mathlib.Omega.{arith}
use borrow.Author.Tests.{leb-true, leb-false, ltb-true, ltb-false}
use lib.Dec.{leb, ltb}
use lib.ListN.{length}
use Rattle.exts.proofs.ItemFaults.{entries_in-append}
use Rattle.exts.proofs.Records.{nth-front, nth-behind, length-entries_from, nth-entries_from}
use Rattle.exts.proofs.Remains.{groups_from-end, groups_from-step, part_items-empty, part_items-size, part_items-groups}
use Rattle.exts.specs.Entries.{nth, entries_in}
use Rattle.exts.specs.Items.{Entry, Item, entry_at, entries_from, group_name, group_count, group_end, group_head_ok, group_ok, group_then, groups_from, part_items}
use Rattle.exts.specs.Sorts.{least_size, size_ok}
use Rattle.exts.specs.declared.Sort.{Sort}
use Rattle.paper.proofs.basics.Choices.{and_left, and_right}
use Rattle.paper.specs.rules.Header.{order_of}
use Rattle.paper.specs.rules.Word.{word_at}

-- a record of a sort, with so many bytes between two places, that says what stands at its place
pub record Inside (s : List ℕ) (sort : Sort) (size from end : ℕ) (e : Entry) : Type 0 where
  pub reads : entry_at s sort e.name e.place ≡ e
  pub sort_is : e.sort ≡ sort
  pub low : from ≤ e.place
  pub high : e.place + size ≤ end

no_record : {A : Type 0} {e : Entry} → none ≡ some e → A
no_record {A} {e} p = absurd (let z : ◌≡◌ {A = ℕ} 0 1 = cc in omega arith)

-- record k of a group ends by the group's end
record-room : (k count size : ℕ) → k < count → k * size + size ≤ count * size
record-room k count size h = omega (arith, suc-mul k size, mul-le-mul {n₁ = suc k} {m₁ = size} {n₂ = count} {m₂ = size} (omega arith) (omega arith))

-- a group that fits ends by the part's end
pub group_ok-fits : (s : List ℕ) (size p end : ℕ) → group_ok s size p end ≡ true → group_end s size p ≤ end
unfolding group_ok
group_ok-fits s size p end f =
    leb-true (group_end s size p) end (and_right (group_head_ok s p end) (leb (group_end s size p) end) f)

module _ (s : List ℕ) (sort : Sort) (size : ℕ) where
  -- of one group, and what stands behind it
  then-inside : (p end : ℕ) (rest : ℕ → List Item) (ok : Bool) → group_ok s size p end ≡ ok
      → ((q k : ℕ) (e : Entry) → p ≤ q → nth (entries_in (rest q)) k ≡ some e → Inside s sort size p end e) → (k : ℕ) {e : Entry}
      → nth (entries_in (group_then s sort size p ok rest)) k ≡ some e → Inside s sort size p end e
  unfolding entry_at
  then-inside p end rest false f later k g = no_record g
  then-inside p end rest true f later k {e} g = go (ltb k (group_count s p)) refl
    where
      name : ℕ
      name = group_name s p

      es : List Entry
      es = entries_in (entries_from s sort size name (group_count s p) (p + 8))

      split : nth (es ++ entries_in (rest (group_end s size p))) k ≡ some e
      split = ap (λ (xs : List Entry). nth xs k) (sym (entries_in-append (entries_from s sort size name (group_count s p) (p + 8)) (rest (group_end s size p)))) ∙ g

      many : length es ≡ group_count s p
      many = length-entries_from s sort size name (group_count s p) (p + 8)

      here : k < group_count s p → Inside s sort size p end e
      here h =
          let is : some (entry_at s sort name (p + 8 + k * size)) ≡ some e =
          sym (nth-entries_from s sort size name (group_count s p) (p + 8) k h) ∙ sym (nth-front es (entries_in (rest (group_end s size p))) k (omega (arith, many))) ∙ split in
          let same : entry_at s sort name (p + 8 + k * size) ≡ e = cc in
          let at : p + 8 + k * size ≡ e.place = ap (λ (x : Entry). x.place) same in
          record {
            reads = subst (λ (x : Entry). entry_at s sort x.name x.place ≡ x) same refl;
            sort_is = sym (ap (λ (x : Entry). x.sort) same);
            low = omega arith;
            high = omega (arith, record-room k (group_count s p) size h, group_ok-fits s size p end f);
          }

      go : (z : Bool) → ltb k (group_count s p) ≡ z → Inside s sort size p end e
      go true x = here (ltb-true k (group_count s p) x)
      go false x =
          let h = ltb-false k (group_count s p) x in
          later (group_end s size p) (k - length es) e (omega arith) (sym (nth-behind es (entries_in (rest (group_end s size p))) k (omega (arith, many))) ∙ split)

  pub groups-inside : (fuel p end k : ℕ) {e : Entry} → nth (entries_in (groups_from s fuel sort size p end)) k ≡ some e → Inside s sort size p end e
  groups-inside zero p end k g = no_record g
  groups-inside (suc fuel) p end k {e} g = go (leb end p) refl (λ q j x i. groups-inside fuel q end j i)
    where
      lower : {q : ℕ} {x : Entry} → p ≤ q → Inside s sort size q end x → Inside s sort size p end x
      lower h i = record { reads = i.reads; sort_is = i.sort_is; low = omega (arith, i.low); high = i.high }

      go : (z : Bool) → leb end p ≡ z → ((q j : ℕ) (x : Entry) → nth (entries_in (groups_from s fuel sort size q end)) j ≡ some x → Inside s sort size q end x)
          → Inside s sort size p end e
      go true x later =
          no_record (ap (λ (is : List Item). nth (entries_in is) k) (sym (groups_from-end s (suc fuel) sort size p end (leb-true end p x))) ∙ g)
      go false x later =
          then-inside p end (λ (next : ℕ). groups_from s fuel sort size next end) (group_ok s size p end) refl
          (λ q j x h i. lower h (later q j x i)) k
          (ap (λ (is : List Item). nth (entries_in is) k) (sym (groups_from-step s fuel sort size p end (leb-false end p x))) ∙ g)

-- ── a part ──

-- which sizes a sort may have
pub size_ok-least : (sort : Sort) (size : ℕ) → size_ok sort size ≡ true → least_size sort ≤ size
unfolding size_ok
size_ok-least sort size e = leb-true (least_size sort) size (and_left (leb (least_size sort) size) _ e)

-- record k of a part has the bytes of its sort inside the part
pub part-inside : (s : List ℕ) (sort : Sort) (from end k : ℕ) {e : Entry} → nth (entries_in (part_items s (record { sort = sort; from = from; end = end }))) k ≡ some e
    → Inside s sort (least_size sort) from end e
part-inside s sort from end k {e} g = go (leb end from) refl
  where
    size : ℕ
    size = word_at (order_of s) s from

    by_size : from < end → (ok : Bool) → size_ok sort size ≡ ok → Inside s sort (least_size sort) from end e
    by_size h true o =
        let i = groups-inside s sort size end (from + 4) end k
        (ap (λ (is : List Item). nth (entries_in is) k) (sym (part_items-groups s sort h refl (sym o) refl)) ∙ g) in
        record { reads = i.reads; sort_is = i.sort_is; low = omega (arith, i.low); high = omega (arith, i.high, size_ok-least sort size o) }
    by_size h false o = no_record (ap (λ (is : List Item). nth (entries_in is) k) (sym (part_items-size s sort h refl (sym o) refl)) ∙ g)

    go : (z : Bool) → leb end from ≡ z → Inside s sort (least_size sort) from end e
    go true x = no_record (ap (λ (is : List Item). nth (entries_in is) k) (sym (part_items-empty s sort (leb-true end from x))) ∙ g)
    go false x = by_size (leb-false end from x) (size_ok sort size) refl
