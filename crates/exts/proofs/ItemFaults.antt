-- Laws of what is asked of a list of items: two lists one behind the other, and records whatever their group is named.
-- Assumes nothing.
use Prim.Native.Nat.{ℕ, zero, suc, ◌+◌}
use mathlib.Core.Path.{◌≡◌, refl, ap, ◌∙◌}
use mathlib.Core.Bool.{Bool, true, false, ◌&&◌}
use mathlib.Core.List.{List, [], ◌∷◌, ◌++◌}
use mathlib.Core.Option.{Option, none, some}
use Rattle.exts.specs.Entries.{entries_in, unbroken}
use Rattle.exts.specs.Ext.{item_rules, entry_rules, first_fault}
use Rattle.exts.specs.Items.{Entry, Item, broken, group, entry, entry_at, entries_from}
use Rattle.exts.specs.declared.Sort.{Sort}
use Rattle.paper.specs.rules.Choice.{every, first_due, or_else}
use Rattle.paper.specs.rules.Table.{Table}

or_else-assoc : {A : Type 0} (x y z : Option A) → or_else x (or_else y z) ≡ or_else (or_else x y) z
or_else-assoc none y z = refl
or_else-assoc (some a) y z = refl

module _ (long : ℕ) (T : Table) where
  -- the first fault of two lists is the first's, else the second's
  pub first_fault-append : (xs ys : List Item) → first_fault long T (xs ++ ys) ≡ or_else (first_fault long T xs) (first_fault long T ys)
  first_fault-append [] ys = refl
  first_fault-append (x ∷ xs) ys =
      ap (or_else (first_due (item_rules long T x))) (first_fault-append xs ys)
      ∙ or_else-assoc (first_due (item_rules long T x)) (first_fault long T xs) (first_fault long T ys)

  -- no rule of a record asks what its group is named
  pub first_fault-named : (s : List ℕ) (sort : Sort) (size name other n p : ℕ)
      → first_fault long T (entries_from s sort size name n p) ≡ first_fault long T (entries_from s sort size other n p)
  unfolding entry_rules entry_at
  first_fault-named s sort size name other zero p = refl
  first_fault-named s sort size name other (suc n) p =
      ap (or_else (first_due (entry_rules long T (entry_at s sort name p)))) (first_fault-named s sort size name other n (p + size))

-- ── records ──

pub entries_in-append : (xs ys : List Item) → entries_in (xs ++ ys) ≡ entries_in xs ++ entries_in ys
entries_in-append [] ys = refl
entries_in-append (broken n ∷ xs) ys = entries_in-append xs ys
entries_in-append (group name ∷ xs) ys = entries_in-append xs ys
entries_in-append (entry e ∷ xs) ys = ap (λ (es : List Entry). e ∷ es) (entries_in-append xs ys)

and_assoc : (x y z : Bool) → x && (y && z) ≡ (x && y) && z
and_assoc true y z = refl
and_assoc false y z = refl

pub every_append : {A : Type 0} (f : A → Bool) (xs ys : List A) → every f (xs ++ ys) ≡ every f xs && every f ys
every_append f [] ys = refl
every_append f (x ∷ xs) ys = ap (λ (z : Bool). f x && z) (every_append f xs ys) ∙ and_assoc (f x) (every f xs) (every f ys)

-- nothing of a group's records is broken
pub entries_from-unbroken : (s : List ℕ) (sort : Sort) (size name n p : ℕ) → every unbroken (entries_from s sort size name n p) ≡ true
entries_from-unbroken s sort size name zero p = refl
entries_from-unbroken s sort size name (suc n) p = entries_from-unbroken s sort size name n (p + size)
