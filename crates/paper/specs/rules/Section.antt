-- Report 15, the layout of a DATASEC.
use Rattle.std.specs.Prelude.{ℕ, ◌+◌, Bool, true, ◌&&◌, ◌||◌, List, [], ◌∷◌, leb, eqb}
use Rattle.std.proofs.Math.Option.{Option, none, some}
use Rattle.paper.specs.rules.Choice.{every}
use Rattle.paper.specs.rules.Size.{exact_size}
use Rattle.paper.specs.rules.Table.{Record, Table}

pub record Entry : Type 0 where
  pub variable : ℕ
  pub offset : ℕ
  pub size : ℕ

abbrev pub entries_in : List ℕ → List Entry
entries_in [] = []
entries_in (v ∷ []) = []
entries_in (v ∷ o ∷ []) = []
entries_in (v ∷ o ∷ s ∷ ws) = record { variable = v; offset = o; size = s } ∷ entries_in ws

abbrev pub entries_of : Record → List Entry
entries_of r = entries_in r.tail

-- at least an exact size of any magnitude, where there is one
abbrev pub covers_size : ℕ → Option ℕ → Bool
covers_size s none = true
covers_size s (some needed) = leb needed s

-- "A DATASEC entry is at least its variable's exact size, where that has one"
unfoldable pub entry_covers : Table → Entry → Bool
entry_covers T e = covers_size e.size (exact_size T e.variable)

-- "entries don't overlap or fall back and end inside it": each starts where the one before ends, or later
abbrev pub placed_from : ℕ → ℕ → List Entry → Bool
placed_from end free [] = true
placed_from end free (e ∷ es) =
    leb free e.offset && leb (e.offset + e.size) end && placed_from end (e.offset + e.size) es

-- "if the section's size isn't 0"
unfoldable pub section_ok : Table → Record → Bool
section_ok T r = every (entry_covers T) (entries_of r) && (eqb r.third 0 || placed_from r.third 0 (entries_of r))
