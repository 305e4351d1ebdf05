-- What the functions of a section alone answer, in the terms of the definitions.
use Rattle.paper.specs.declared.NameOff.{NameOff}
use Rattle.paper.specs.declared.Place.{Place}
use Rattle.std.specs.Prelude.{ℕ, ◌+◌, ◌≤◌, ◌≡◌, Bool, List, length, Option as RustOption, None, Some}
use Rattle.std.proofs.Math.Option.{Option, none, some}
use Rattle.std.specs.Borrow.{Bor}
use Rattle.exts.specs.Entries.{nth, entries_in, unbroken, entries_at, record_asked, entry_bytes, entry_start, found_as_paper, entry_as_paper}
use Rattle.exts.specs.Items.{Entry, Part, groups_from, part_items, items_of}
use Rattle.exts.specs.declared.Sort.{Sort}
use Rattle.groups.specs.Fronts.{three_parts}
use Rattle.groups.specs.declared.asked.Picked.{Picked}
use Rattle.paper.specs.rules.Choice.{every}

-- ── groups, of records of any sort ──

pub record GroupsWhole (r : Bool) (s : List ℕ) (size at end : ℕ) : Type 0 where
  pub is : (sort : Sort) → r ≡ every unbroken (groups_from s end sort size at end)

pub record GroupsFound (r : RustOption (NameOff × Place)) (s : List ℕ) (size at end y : ℕ) : Type 0 where
  pub is : (sort : Sort) → found_as_paper r ≡ entry_as_paper (nth (entries_in (groups_from s end sort size at end)) y)

-- ── parts ──

abbrev pub part_whole : List ℕ → Sort → ℕ → ℕ → Bool
part_whole s sort from end = every unbroken (part_items s (record { sort = sort; from = from; end = end }))

abbrev pub part_record : List ℕ → Sort → ℕ → ℕ → ℕ → Option Entry
part_record s sort from end y = nth (entries_in (part_items s (record { sort = sort; from = from; end = end }))) y

abbrev pub parts_whole : List ℕ → ℕ → ℕ → ℕ → ℕ → Bool
parts_whole s from first second end = every unbroken (items_of s (three_parts from first second end))

abbrev pub picked_part : RustOption Picked → Option Part
picked_part None = none
picked_part (Some p) = some (record { sort = p.sort; from = p.from; end = p.end })

abbrev pub picked_end : RustOption Picked → ℕ
picked_end None = 0
picked_end (Some p) = p.end

-- what is asked of the section is asked of the part, which lies inside
pub record PickedOf (r : RustOption Picked) (s : List ℕ) (x : ℕ) : Type 0 where
  pub is : (y : ℕ) → record_asked s x y ≡ nth (entries_at s (picked_part r)) y
  pub small : picked_end r ≤ 1000000
  pub inside : picked_end r ≤ length s

-- ── bytes: which part of the lent section they are ──

pub record EntryBytes (r s : Bor (List ℕ)) (o : Option Entry) : Type 0 where
  pub bytes : r.now ≡ entry_bytes s.now o
  pub place : r.ref_ptr ≡ (s.ref_ptr.0, entry_start o + s.ref_ptr.1)

abbrev pub PartBytes : Bor (List ℕ) → Bor (List ℕ) → Sort → ℕ → ℕ → ℕ → Type 0
PartBytes r s sort from end y = EntryBytes r s (part_record s.now sort from end y)

abbrev pub BytesOf : Bor (List ℕ) → Bor (List ℕ) → ℕ → ℕ → Type 0
BytesOf r s x y = EntryBytes r s (record_asked s.now x y)
