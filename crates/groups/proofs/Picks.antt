-- Laws of the part that a record is asked of: which one it is, whether the section is whole, and the record's bytes.
-- Assumes nothing.
use Rattle.std.specs.Prelude.{None, Option as RustOption, Some}
use Prim.Native.Nat.{ℕ, zero, suc, ◌+◌, ◌-◌, ◌≤◌, ◌<◌}
use mathlib.Core.Path.{◌≡◌, refl, sym, ap, ap₂, ◌∙◌}
use mathlib.Core.Bool.{Bool, true, false, not, cond, ◌&&◌}
use mathlib.Core.List.{List, [], ◌∷◌}
use mathlib.Core.Option.{Option, none, some}
use native.Mathlib.Omega.{arith}
use borrow.Author.Tests.{lt-ltb, le-ltb, not-true, not-false}
use denote.Ref.{Bor}
use lib.Dec.{ltb}
use lib.ListN.{length, take, drop}
use Rattle.exts.proofs.Insides.{part-inside}
use Rattle.exts.proofs.ItemFaults.{every_append}
use Rattle.exts.proofs.Remains.{part_items-empty, part_items-size, part_items-groups}
use Rattle.exts.specs.Entries.{nth, part_at, entries_in, unbroken, is_whole, entries_at, part_entries, record_asked, entry_bytes, entry_start, found_as_paper, entry_as_paper}
use Rattle.exts.specs.Ext.{head_length_bad, parts_bad}
use Rattle.exts.specs.Items.{Entry, Item, Part, part_items, parts, items_of, items}
use Rattle.exts.specs.Sorts.{least_size, size_ok}
use Rattle.exts.specs.declared.Sort.{Sort}
use Rattle.exts.specs.declared.Sort.TheVariants.{Function, Line, Relocation}
use Rattle.groups.specs.Asking.{GroupsWhole, GroupsFound, part_whole, part_record, parts_whole, picked_part, picked_end, PickedOf}
use Rattle.groups.specs.Fronts.{FrontIn, three_parts}
use Rattle.groups.specs.declared.asked.Picked.{Picked}
use Rattle.paper.proofs.basics.Choices.{and-nothing, false-or, or_left, or_right}
use Rattle.paper.specs.declared.NameOff.{NameOff}
use Rattle.paper.specs.declared.Place.{Place}
use Rattle.paper.specs.rules.Answer.{Answer, report, report_at}
use Rattle.paper.specs.rules.Choice.{every, ◌when◌, first_due}
use Rattle.paper.specs.rules.Header.{length_bad, opening_bad, order_of}
use Rattle.paper.specs.rules.Limits.{byte_limit}
use Rattle.paper.specs.rules.Word.{word_at}

-- ── one part ──

module _ (s : List ℕ) (sort : Sort) (from end : ℕ) where
  pub whole-empty : end ≤ from → true ≡ part_whole s sort from end
  whole-empty h = sym (ap (every unbroken) (part_items-empty s sort h))

  pub none-empty : end ≤ from → (y : ℕ) → found_as_paper None ≡ entry_as_paper (part_record s sort from end y)
  unfolding found_as_paper
  none-empty h y = sym (ap (λ (is : List Item). entry_as_paper (nth (entries_in is) y)) (part_items-empty s sort h))

  module _ (filled : from < end) {size : ℕ} (sized : size ≡ word_at (order_of s) s from) {ok : Bool} (asked : ok ≡ size_ok sort size) where
    pub whole-size : not ok ≡ true → false ≡ part_whole s sort from end
    whole-size n = sym (ap (every unbroken) (part_items-size s sort filled sized asked n))

    pub whole-groups : not ok ≡ false → {r : Bool} → GroupsWhole r s size (from + 4) end → r ≡ part_whole s sort from end
    whole-groups n g = g.is sort ∙ sym (ap (every unbroken) (part_items-groups s sort filled sized asked n))

    pub none-size : not ok ≡ true → (y : ℕ) → found_as_paper None ≡ entry_as_paper (part_record s sort from end y)
    unfolding found_as_paper
    none-size n y = sym (ap (λ (is : List Item). entry_as_paper (nth (entries_in is) y)) (part_items-size s sort filled sized asked n))

    pub found-groups : not ok ≡ false → (y : ℕ) {r : RustOption (NameOff × Place)} → GroupsFound r s size (from + 4) end y → found_as_paper r ≡ entry_as_paper (part_record s sort from end y)
    found-groups n y g = g.is sort ∙ sym (ap (λ (is : List Item). entry_as_paper (nth (entries_in is) y)) (part_items-groups s sort filled sized asked n))

-- ── three parts ──

pub parts-whole-is : (s : List ℕ) (from first second end : ℕ) {x y z : Bool} → x ≡ part_whole s Function from first → y ≡ part_whole s Line first second
    → z ≡ part_whole s Relocation second end → (x && y) && z ≡ parts_whole s from first second end
parts-whole-is s from first second end {x} {y} {z} e f g =
    regroup x y z
    ∙ (λ i. e i && (f i && (g i && true)))
    ∙ sym (every_append unbroken (part_items s one) (items_of s (two ∷ three ∷ []))
    ∙ ap (λ (b : Bool). every unbroken (part_items s one) && b)
    (every_append unbroken (part_items s two) (items_of s (three ∷ []))
    ∙ ap (λ (b : Bool). every unbroken (part_items s two) && b) (every_append unbroken (part_items s three) [])))
  where
    one : Part
    one = record { sort = Function; from = from; end = first }

    two : Part
    two = record { sort = Line; from = first; end = second }

    three : Part
    three = record { sort = Relocation; from = second; end = end }

    regroup : (x y z : Bool) → (x && y) && z ≡ x && (y && (z && true))
    regroup true true z = sym (and-nothing z)
    regroup true false z = refl
    regroup false y z = refl

-- there are three parts, counted from 1
pub part_none : (from first second end x : ℕ) → (x ≡ 1 → ⊥) → (x ≡ 2 → ⊥) → (x ≡ 3 → ⊥) → none ≡ part_at (three_parts from first second end) x
part_none from first second end zero f g h = refl
part_none from first second end (suc zero) f g h = absurd (f refl)
part_none from first second end (suc (suc zero)) f g h = absurd (g refl)
part_none from first second end (suc (suc (suc zero))) f g h = absurd (h refl)
part_none from first second end (suc (suc (suc (suc x)))) f g h = refl

abbrev end_of : Option Part → ℕ
end_of none = 0
end_of (some x) = x.end

end_of-picked : (r : RustOption Picked) → picked_end r ≡ end_of (picked_part r)
end_of-picked None = refl
end_of-picked (Some p) = refl

end_of-three : (from first second end most x : ℕ) → first ≤ most → second ≤ most → end ≤ most → end_of (part_at (three_parts from first second end) x) ≤ most
end_of-three from first second end most zero f g h = omega arith
end_of-three from first second end most (suc zero) f g h = f
end_of-three from first second end most (suc (suc zero)) f g h = g
end_of-three from first second end most (suc (suc (suc zero))) f g h = h
end_of-three from first second end most (suc (suc (suc (suc x)))) f g h = omega arith

-- ── the whole section ──

module _ (s : List ℕ) (x : ℕ) where
  by_tests : {a b c d e : Bool} → length_bad s ≡ a → opening_bad s ≡ b → head_length_bad s ≡ c → parts_bad s ≡ d → every unbroken (items s) ≡ e
      → is_whole s ≡ not a && (not b && (not c && (not d && (e && true))))
  unfolding is_whole
  by_tests p q r t u = λ i. not (p i) && (not (q i) && (not (r i) && (not (t i) && (u i && true))))

  unpicked : is_whole s ≡ false → PickedOf None s x
  unfolding record_asked
  unpicked e = record { is = λ y. ap (λ (z : Bool). cond z (nth (part_entries s x) y) none) e; small = omega arith; inside = omega arith }

  pub pick_under : length s < 24 → PickedOf None s x
  unfolding length_bad
  pick_under h = unpicked (by_tests (or_left (ltb byte_limit (length s)) (lt-ltb (length s) 24 h)) refl refl refl refl)

  pub pick-over : byte_limit < length s → PickedOf None s x
  unfolding length_bad
  pick-over h = unpicked (by_tests (or_right (ltb (length s) 24) (lt-ltb byte_limit (length s) h)) refl refl refl refl)

  module _ (long : 24 ≤ length s) (short : length s ≤ byte_limit) {z : Bool} (asked : z ≡ not (opening_bad s)) where
    fits : length_bad s ≡ false
    unfolding length_bad
    fits = false-or (le-ltb (length s) 24 long) (le-ltb byte_limit (length s) short)

    opened : {y : Bool} → not z ≡ y → opening_bad s ≡ y
    opened e = back (opening_bad s) ∙ ap not (sym asked) ∙ e
      where
        back : (b : Bool) → b ≡ not (not b)
        back true = refl
        back false = refl

    pub pick-opening : not z ≡ true → PickedOf None s x
    pick-opening n = unpicked (by_tests fits (opened n) refl refl refl)

    module _ (opens : not z ≡ false) where
      pub pick-front : {n : ℕ} → first_due (43 when head_length_bad s ∷ 44 when parts_bad s ∷ []) ≡ some n → PickedOf None s x
      pick-front {n} e = go (head_length_bad s) (parts_bad s) refl refl e
        where
          go : (c d : Bool) → head_length_bad s ≡ c → parts_bad s ≡ d → first_due (43 when c ∷ 44 when d ∷ []) ≡ some n → PickedOf None s x
          go true d p q e = unpicked (by_tests fits (opened opens) p refl refl)
          go false true p q e = unpicked (by_tests fits (opened opens) p q refl)
          go false false p q e = absurd (let z : ◌≡◌ {A = ℕ} 0 1 = cc in omega arith)

      module _ {from first second end : ℕ} (g : FrontIn s from first second end) {w : Bool} (walked : w ≡ parts_whole s from first second end) where
        all-items : {e : Bool} → w ≡ e → every unbroken (items s) ≡ e
        unfolding items
        all-items e = ap (λ (xs : List Part). every unbroken (items_of s xs)) g.there ∙ sym walked ∙ e

        tested : {e : Bool} → w ≡ e → is_whole s ≡ e && true
        tested e = by_tests fits (opened opens) g.header g.follow (all-items e)

        pub pick-broken : not w ≡ true → PickedOf None s x
        pick-broken n = unpicked (tested (not-true w n))

        pub pick-part : not w ≡ false → {r : RustOption Picked} → picked_part r ≡ part_at (three_parts from first second end) x → PickedOf r s x
        unfolding record_asked part_entries
        pick-part n {r} e =
            let most : end_of (part_at (three_parts from first second end) x) ≤ length s =
            end_of-three from first second end (length s) x g.first_inside g.second_inside (omega (arith, g.fills)) in
            let ends : picked_end r ≡ end_of (part_at (three_parts from first second end) x) = end_of-picked r ∙ ap end_of e in
            record {
              is = λ y.
                  ap (λ (b : Bool). cond b (nth (entries_at s (part_at (parts s) x)) y) none) (tested (not-false w n))
                  ∙ ap (λ (o : Option Part). nth (entries_at s o) y) (ap (λ (xs : List Part). part_at xs x) g.there ∙ sym e);
              small = omega arith;
              inside = omega arith;
            }

-- ── the record's bytes ──

-- what an answer says of the record
pub found_none : (o : Option Entry) {r : RustOption (NameOff × Place)} → found_as_paper r ≡ entry_as_paper o → r ≡ None → o ≡ none
unfolding found_as_paper
found_none none e is = refl
found_none (some x) {r} e is =
    absurd (let p : report 1 0 ≡ entry_as_paper (some x) = sym (ap found_as_paper is) ∙ e in let z : ◌≡◌ {A = ℕ} 1 0 = ap (λ (a : Answer). a.number) p in omega arith)

-- a record that is found
pub record FoundAs (o : Option Entry) (p : ℕ) : Type 0 where
  pub it : Entry
  pub is : o ≡ some it
  pub there : it.place ≡ p

pub found_some : (o : Option Entry) {r : RustOption (NameOff × Place)} → found_as_paper r ≡ entry_as_paper o → (name : NameOff) (place : Place) → r ≡ Some (name, place) → FoundAs o place.0
unfolding found_as_paper
found_some none {r} e name place is =
    absurd (let p : report_at 0 name.0 place.0 ≡ report 1 0 = sym (ap found_as_paper is) ∙ e in let z : ◌≡◌ {A = ℕ} 0 1 = ap (λ (a : Answer). a.number) p in omega arith)
found_some (some x) {r} e name place is =
    let p : report_at 0 name.0 place.0 ≡ entry_as_paper (some x) = sym (ap found_as_paper is) ∙ e in
    record { it = x; is = refl; there = sym (ap (λ (a : Answer). a.p) p) }

module _ (s : List ℕ) (sort : Sort) (from end y : ℕ) {p : ℕ} (f : FoundAs (part_record s sort from end y) p) {size : ℕ} (sized : size ≡ least_size sort) where
  pub found_inside : end ≤ length s → p + size ≤ length s
  found_inside h = let i = part-inside s sort from end y f.is in omega (arith, i.high, f.there, sized)

  pub found-bytes : take (p + size - p) (drop p s) ≡ entry_bytes s (part_record s sort from end y)
  found-bytes =
      let i = part-inside s sort from end y f.is in
      let long : p + size - p ≡ least_size f.it.sort = less p size ∙ sized ∙ ap least_size (sym i.sort_is) in
      ap₂ (λ (n q : ℕ). take n (drop q s)) long (sym f.there) ∙ ap (entry_bytes s) (sym f.is)
    where
      less : (p size : ℕ) → p + size - p ≡ size
      less p size = omega arith

  pub found-start : entry_start (part_record s sort from end y) ≡ p
  found-start = ap entry_start f.is ∙ f.there

-- a part's pointer, by where the part begins
pub starts : (s : Bor (List ℕ)) (n : ℕ) {m : ℕ} → m ≡ n + s.ref_ptr.1 → ◌≡◌ {A = ℕ × ℕ} (s.ref_ptr.0, m) (s.ref_ptr.0, n + s.ref_ptr.1)
starts s n e = ap {B = ℕ × ℕ} (λ (k : ℕ). (s.ref_ptr.0, k)) e
