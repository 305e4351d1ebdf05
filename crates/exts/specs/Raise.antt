-- A section's items as the join raises the second table: type numbers by the first's count, name offsets by its string length less one; 0 stays 0.
use Rattle.std.specs.Prelude.{ℕ, ◌-◌, ◌≡◌, List, [], ◌∷◌, map, length, take}
use Rattle.exts.specs.Facts.{HeadFacts}
use Rattle.exts.specs.Items.{Entry, Item, broken, group, entry, items}
use Rattle.exts.specs.Sorts.{roles_of}
use Rattle.exts.specs.declared.Role.{Role}
use Rattle.exts.specs.declared.Role.TheVariants.{Plain, Name, FuncType, AnyType}
use Rattle.paper.specs.rules.Rename.{raise}
use Rattle.paper.specs.rules.Table.{Table, count}

module _ (A : Table) where
  -- the second's strings stand behind the first's, without their first byte
  abbrev pub names_by : ℕ
  names_by = length A.strings - 1

  abbrev pub raise_name : ℕ → ℕ
  raise_name w = raise names_by w

  -- a word by its role
  abbrev pub raise_word : Role → ℕ → ℕ
  raise_word Plain w = w
  raise_word Name w = raise_name w
  raise_word FuncType w = raise (count A) w
  raise_word AnyType w = raise (count A) w

  abbrev pub raise_words : List Role → List ℕ → List ℕ
  raise_words [] ws = ws
  raise_words (ρ ∷ ρs) [] = []
  raise_words (ρ ∷ ρs) (w ∷ ws) = raise_word ρ w ∷ raise_words ρs ws

  -- its sort and its place stay
  abbrev pub raise_entry : Entry → Entry
  raise_entry e = record { sort = e.sort; name = raise_name e.name; place = e.place; words = raise_words (roles_of e.sort) e.words }

  abbrev pub raise_item : Item → Item
  raise_item (broken n) = broken n
  raise_item (group name) = group (raise_name name)
  raise_item (entry e) = entry (raise_entry e)

-- a section is another with its numbers raised so: a header as good and of the same opening, and the items that the other's are raised to
pub record RaisedTo (A : Table) (s s' : List ℕ) : Type 0 where
  pub head : HeadFacts s'
  pub opens : take 4 s' ≡ take 4 s
  pub raises : items s' ≡ map (raise_item A) (items s)
