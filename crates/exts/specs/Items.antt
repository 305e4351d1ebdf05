-- A section read once, by one walk for all sorts of record: the list of its items, of any bytes. Every rule and every question is about that list.
use Rattle.std.specs.Prelude.{ℕ, zero, suc, ◌+◌, ◌*◌, Bool, not, cond, ◌&&◌, List, [], ◌∷◌, ◌++◌, eqb, leb, length}
use Rattle.exts.specs.Sorts.{roles_of, header_place, size_ok, sorts}
use Rattle.exts.specs.declared.Sort.{Sort}
use Rattle.paper.specs.rules.Header.{order_of}
use Rattle.paper.specs.rules.Word.{word_at}
use Rattle.paper.specs.terms.Reading.{words_from}

-- a record: its sort, its group's name offset, its place in the section, and its words by role
pub record Entry : Type 0 where
  pub sort : Sort
  pub name : ℕ
  pub place : ℕ
  pub words : List ℕ

-- what a walk of a part meets: a fault, 45 or 46, behind which nothing of the part can be read; a group, by its name offset; a record
pub data Item : Type 0 where
  broken : ℕ → Item
  group : ℕ → Item
  entry : Entry → Item

-- a part, by the places in the section where it begins and ends
pub record Part : Type 0 where
  pub sort : Sort
  pub from : ℕ
  pub end : ℕ

module _ (s : List ℕ) where
  -- "header length"
  unfoldable pub head_length : ℕ
  head_length = word_at (order_of s) s 4

  -- the header has words for a sort's part; one of 24 bytes has none for relocations
  abbrev pub describes : Sort → Bool
  describes sort = leb (header_place sort + 8) head_length

  unfoldable pub part_offset : Sort → ℕ
  part_offset sort = word_at (order_of s) s (header_place sort)

  -- "the optional relocation records": a part that the header has no words for is empty
  unfoldable pub part_length : Sort → ℕ
  part_length sort = cond (describes sort) (word_at (order_of s) s (header_place sort + 4)) 0

  -- ── groups and records ──

  unfoldable pub entry_at : Sort → ℕ → ℕ → Entry
  entry_at sort name p = record { sort = sort; name = name; place = p; words = words_from (order_of s) s p (length (roles_of sort)) }

  -- so many records of a group, each of so many bytes, from a place on
  abbrev pub entries_from : Sort → ℕ → ℕ → ℕ → ℕ → List Item
  entries_from sort size name zero p = []
  entries_from sort size name (suc n) p = entry (entry_at sort name p) ∷ entries_from sort size name n (p + size)

  -- a group's name offset and its count of records
  abbrev pub group_name : ℕ → ℕ
  group_name p = word_at (order_of s) s p

  abbrev pub group_count : ℕ → ℕ
  group_count p = word_at (order_of s) s (p + 4)

  -- where the group at a place ends: behind its head and its records (exact sum)
  abbrev pub group_end : ℕ → ℕ → ℕ
  group_end size p = p + 8 + group_count p * size

  -- its head fits, and its count is not 0
  abbrev pub group_head_ok : ℕ → ℕ → Bool
  group_head_ok p end = leb (p + 8) end && not (eqb (group_count p) 0)

  -- 46: "a group doesn't fit or its count is 0"
  unfoldable pub group_ok : ℕ → ℕ → ℕ → Bool
  group_ok size p end = group_head_ok p end && leb (group_end size p) end

  -- the items of one group, and those behind it
  abbrev pub group_then : Sort → ℕ → ℕ → Bool → (ℕ → List Item) → List Item
  group_then sort size p ok rest =
      cond ok (group (group_name p) ∷ entries_from sort size (group_name p) (group_count p) (p + 8) ++ rest (group_end size p)) (broken 46 ∷ [])

  -- the groups from a place up to the end of the part, of which there are no more than the fuel
  abbrev pub groups_from : ℕ → Sort → ℕ → ℕ → ℕ → List Item
  groups_from zero sort size p end = []
  groups_from (suc fuel) sort size p end =
      cond (leb end p) [] (group_then sort size p (group_ok size p end) (λ (next : ℕ). groups_from fuel sort size next end))

  -- ── parts ──

  -- the record size at a part's start, then its groups; "a part that isn't empty"
  unfoldable pub part_items : Part → List Item
  part_items x =
      let size = word_at (order_of s) s x.from in
      cond (leb x.end x.from) []
      (cond (size_ok x.sort size) (groups_from x.end x.sort size (x.from + 4) x.end) (broken 45 ∷ []))

  -- parts one behind the other from a place on
  abbrev pub parts_from : ℕ → List Sort → List Part
  parts_from p [] = []
  parts_from p (sort ∷ later) = record { sort = sort; from = p; end = p + part_length sort } ∷ parts_from (p + part_length sort) later

  unfoldable pub parts : List Part
  parts = parts_from head_length sorts

  abbrev pub items_of : List Part → List Item
  items_of [] = []
  items_of (x ∷ xs) = part_items x ++ items_of xs

  unfoldable pub items : List Item
  items = items_of parts
