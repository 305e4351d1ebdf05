-- Laws of the whole section: the parts one behind the other, and 41 to 44 in front of them.
-- Assumes nothing.
use Rattle.std.specs.Prelude.{Err, Ok, Result}
use Prim.Native.Nat.{ℕ, ◌≤◌, ◌<◌}
use mathlib.Core.Path.{◌≡◌, refl, sym, ap, ap₂, ◌∙◌}
use mathlib.Core.Bool.{Bool, true, false, not}
use mathlib.Core.List.{List, [], ◌∷◌, ◌++◌}
use mathlib.Core.Option.{Option, none, some}
use borrow.Author.Tests.{lt-ltb, le-ltb}
use lib.Dec.{ltb}
use lib.ListN.{length, take}
use Rattle.exts.proofs.ItemFaults.{first_fault-append}
use Rattle.exts.specs.Ext.{head_length_bad, parts_bad, first_fault, items_fault, section_fault, fault_number, judged_number}
use Rattle.exts.specs.Items.{Part, part_items, items_of, items}
use Rattle.exts.specs.declared.Fault.{Fault}
use Rattle.exts.specs.declared.Fault.TheVariants.{Length, Opening}
use Rattle.exts.specs.declared.Sort.TheVariants.{Function, Line, Relocation}
use Rattle.groups.proofs.Walks.{fault-said, sound-said}
use Rattle.groups.specs.Fronts.{FrontIn, parts_fault, three_parts}
use Rattle.groups.specs.Walking.{part_fault}
use Rattle.paper.proofs.basics.Choices.{or_left, or_right, false-or}
use Rattle.paper.specs.rules.Choice.{same, ◌when◌, first_due, or_else}
use Rattle.paper.specs.rules.Header.{length_bad, strings_in}
use Rattle.paper.specs.rules.Limits.{byte_limit}
use Rattle.paper.specs.rules.Table.{Table}
use Rattle.views.proofs.Shows.{strings_in-none}
use Rattle.views.specs.Shown.{table_by}
use Rattle.views.specs.declared.View.{View}

-- the strings of the table that an index shows are the blob's
pub strings-shown : (b index : List ℕ) (v : View) {strings : List ℕ} → strings ≡ strings_in b → length strings ≡ length (table_by [] b index v).strings
unfolding table_by
strings-shown b index v e = ap length (e ∙ sym (ap (λ (x : List ℕ). x ++ strings_in b) strings_in-none))

-- ── three parts ──

or_else-nothing : (o : Option ℕ) → or_else o none ≡ o
or_else-nothing none = refl
or_else-nothing (some n) = refl

module _ (T : Table) (s : List ℕ) (from first second end : ℕ) {long : ℕ} (strings : long ≡ length T.strings) where
  in_order : parts_fault T s from first second end
      ≡ or_else (part_fault T long s Function from first) (or_else (part_fault T long s Line first second) (part_fault T long s Relocation second end))
  in_order =
      ap (λ (k : ℕ). first_fault k T (items_of s (three_parts from first second end))) (sym strings)
      ∙ first_fault-append long T (part_items s (record { sort = Function; from = from; end = first })) (items_of s later)
      ∙ ap (or_else (part_fault T long s Function from first))
      (first_fault-append long T (part_items s (record { sort = Line; from = first; end = second })) (items_of s last)
      ∙ ap (or_else (part_fault T long s Line first second))
      (first_fault-append long T (part_items s (record { sort = Relocation; from = second; end = end })) []
      ∙ or_else-nothing (part_fault T long s Relocation second end)))
    where
      last : List Part
      last = record { sort = Relocation; from = second; end = end } ∷ []

      later : List Part
      later = record { sort = Line; from = first; end = second } ∷ last

  module _ {f : Result (Unit {0}) Fault} (functions : judged_number f ≡ part_fault T long s Function from first) where
    pub parts_first : (x : Fault) → f ≡ Err x → judged_number f ≡ parts_fault T s from first second end
    unfolding judged_number
    parts_first x is =
        ap judged_number is
        ∙ sym (in_order
        ∙ ap (λ (o : Option ℕ). or_else o (or_else (part_fault T long s Line first second) (part_fault T long s Relocation second end))) (fault-said functions x is))

    module _ (sound : f ≡ (Ok (record {}))) where
      behind : parts_fault T s from first second end ≡ or_else (part_fault T long s Line first second) (part_fault T long s Relocation second end)
      behind =
          in_order
          ∙ ap (λ (o : Option ℕ). or_else o (or_else (part_fault T long s Line first second) (part_fault T long s Relocation second end))) (sound-said functions sound)

      pub parts-second : {l : Result (Unit {0}) Fault} → judged_number l ≡ part_fault T long s Line first second → (x : Fault) → l ≡ Err x
          → judged_number l ≡ parts_fault T s from first second end
      unfolding judged_number
      parts-second lines x is =
          ap judged_number is
          ∙ sym (behind ∙ ap (λ (o : Option ℕ). or_else o (part_fault T long s Relocation second end)) (fault-said lines x is))

      pub parts-third : {l : Result (Unit {0}) Fault} → judged_number l ≡ part_fault T long s Line first second → l ≡ (Ok (record {}))
          → {o : Option ℕ} → o ≡ part_fault T long s Relocation second end → o ≡ parts_fault T s from first second end
      parts-third lines is e = e ∙ sym (behind ∙ ap (λ (o : Option ℕ). or_else o (part_fault T long s Relocation second end)) (sound-said lines is))

-- ── 41 to 44, then the items ──

module _ (opens : List ℕ) (T : Table) (s : List ℕ) where
  abbrev by : Bool → Bool → Option ℕ → Option ℕ
  by a b front = or_else (first_due (41 when a ∷ 42 when b ∷ [])) (or_else front (items_fault T (items s)))

  regroup : (a b c d : Bool) (o : Option ℕ)
      → or_else (first_due (41 when a ∷ 42 when b ∷ 43 when c ∷ 44 when d ∷ [])) o
      ≡ or_else (first_due (41 when a ∷ 42 when b ∷ [])) (or_else (first_due (43 when c ∷ 44 when d ∷ [])) o)
  regroup true b c d o = refl
  regroup false true c d o = refl
  regroup false false c d o = refl

  in-front : section_fault opens T s ≡ by (length_bad s) (not (same (take 4 s) opens)) (first_due (43 when head_length_bad s ∷ 44 when parts_bad s ∷ []))
  unfolding section_fault
  in-front = regroup (length_bad s) (not (same (take 4 s) opens)) (head_length_bad s) (parts_bad s) (items_fault T (items s))

  too_long : length_bad s ≡ true → judged_number (Err Length) ≡ section_fault opens T s
  unfolding judged_number fault_number
  too_long e =
      sym (in-front ∙ ap (λ (z : Bool). by z (not (same (take 4 s) opens)) (first_due (43 when head_length_bad s ∷ 44 when parts_bad s ∷ []))) e)

  pub section-under : length s < 24 → judged_number (Err Length) ≡ section_fault opens T s
  unfolding length_bad
  section-under h = too_long (or_left (ltb byte_limit (length s)) (lt-ltb (length s) 24 h))

  pub section-over : byte_limit < length s → judged_number (Err Length) ≡ section_fault opens T s
  unfolding length_bad
  section-over h = too_long (or_right (ltb (length s) 24) (lt-ltb byte_limit (length s) h))

  module _ (long : 24 ≤ length s) (short : length s ≤ byte_limit) {z : Bool} (alike : z ≡ same (take 4 s) opens) where
    fits : length_bad s ≡ false
    unfolding length_bad
    fits = false-or (le-ltb (length s) 24 long) (le-ltb byte_limit (length s) short)

    by-opening : {y : Bool} → not z ≡ y → section_fault opens T s ≡ by false y (first_due (43 when head_length_bad s ∷ 44 when parts_bad s ∷ []))
    by-opening e =
        in-front
        ∙ ap₂ (λ (a b : Bool). by a b (first_due (43 when head_length_bad s ∷ 44 when parts_bad s ∷ []))) fits (ap not (sym alike) ∙ e)

    pub section-opening : not z ≡ true → judged_number (Err Opening) ≡ section_fault opens T s
    unfolding judged_number fault_number
    section-opening e = sym (by-opening e)

    module _ (opened : not z ≡ false) where
      pub section-front : (f : Fault) → first_due (43 when head_length_bad s ∷ 44 when parts_bad s ∷ []) ≡ some (fault_number f)
          → judged_number (Err f) ≡ section_fault opens T s
      unfolding judged_number
      section-front f e = sym (by-opening opened ∙ ap (by false false) e)

      pub section-items : {from first second end : ℕ} → FrontIn s from first second end → {o : Option ℕ} → o ≡ parts_fault T s from first second end
          → o ≡ section_fault opens T s
      unfolding items
      section-items {from} {first} {second} {end} g e =
          e
          ∙ sym (by-opening opened ∙ ap₂ (λ (c d : Bool). by false false (first_due (43 when c ∷ 44 when d ∷ []))) g.header g.follow
          ∙ ap (λ (xs : List Part). items_fault T (items_of s xs)) g.there)
