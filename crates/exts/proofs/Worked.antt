-- Worked examples, as one computed check: a section that is accepted, one for each of 45 to 48, and records handed out.
-- Assumes nothing.
use Prim.Native.Nat.{ℕ, ◌*◌}
use mathlib.Core.Path.{◌≡◌, refl}
use mathlib.Core.List.{List, [], ◌∷◌, ◌++◌, map}
use mathlib.Core.Option.{Option, none, some}
use lib.ListN.{length}
use Rattle.exts.specs.Computes.{section_computes}
use Rattle.exts.specs.Entries.{part_entries, record_asked}
use Rattle.exts.specs.Ext.{section_fault}
use Rattle.exts.specs.Items.{Entry, items}
use Rattle.exts.specs.Raise.{raise_item}
use Rattle.paper.specs.declared.Order.TheVariants.{LowFirst}
use Rattle.paper.specs.rules.Header.{opening}
use Rattle.paper.specs.rules.Table.{Table}
use Rattle.paper.specs.rules.Word.{bytes_of_words}

-- an INT and a FUNC, and strings of five bytes
abbrev beside : Table
beside =
    record {
      records =
          record { name_off = 0; info = 0x01000000; third = 4; tail = 0x20 ∷ [] }
          ∷ record { name_off = 1; info = 0x0c000000; third = 1; tail = [] }
          ∷ [];
      strings = 0 ∷ 102 ∷ 0 ∷ 103 ∷ 0 ∷ [];
    }

abbrev section : List ℕ → List ℕ
section ws = opening LowFirst ++ bytes_of_words LowFirst ws

-- a function record of type t in a group whose name is at n, a line record with names at f and g, and a relocation of type r
abbrev whole : ℕ → ℕ → ℕ → ℕ → ℕ → List ℕ
whole n t f g r =
    section
    (32 ∷ 0 ∷ 20 ∷ 20 ∷ 28 ∷ 48 ∷ 28
    ∷ 8 ∷ n ∷ 1 ∷ 0 ∷ t
    ∷ 16 ∷ 1 ∷ 1 ∷ 0 ∷ f ∷ g ∷ 5
    ∷ 16 ∷ 1 ∷ 1 ∷ 8 ∷ r ∷ 3 ∷ 0
    ∷ [])

-- a function part of these words, and no other
abbrev functions : List ℕ → List ℕ
functions ws = section (24 ∷ 0 ∷ 4 * length ws ∷ 4 * length ws ∷ 0 ∷ ws)

abbrev judges : List ℕ → Option ℕ
judges s = section_fault (opening LowFirst) beside s

abbrev answers : List (Option ℕ)
answers =
    judges (whole 1 2 1 3 0)
    -- a part of just its record size has no groups; records of 12 bytes have extra bytes
    ∷ judges (functions (8 ∷ []))
    ∷ judges (functions (12 ∷ 1 ∷ 2 ∷ 0 ∷ 2 ∷ 99 ∷ 4 ∷ 2 ∷ 99 ∷ []))
    -- 45
    ∷ judges (functions (4 ∷ []))
    ∷ judges (functions (10 ∷ []))
    -- 44: an empty part that is not where it should be
    ∷ judges (section (24 ∷ 0 ∷ 0 ∷ 0 ∷ 0 ∷ []))
    ∷ judges (section (24 ∷ 0 ∷ 0 ∷ 4 ∷ 0 ∷ []))
    -- 46: a count of 0, a record too many, a head cut short; a record of an earlier group speaks before it
    ∷ judges (functions (8 ∷ 1 ∷ 0 ∷ []))
    ∷ judges (functions (8 ∷ 1 ∷ 2 ∷ 0 ∷ 2 ∷ []))
    ∷ judges (functions (8 ∷ 1 ∷ 1 ∷ 0 ∷ 2 ∷ 1 ∷ []))
    ∷ judges (functions (8 ∷ 1 ∷ 1 ∷ 0 ∷ 1 ∷ 1 ∷ 0 ∷ []))
    -- 47: a group's name, and each name of a line record
    ∷ judges (whole 5 2 1 3 0)
    ∷ judges (whole 1 2 5 3 0)
    ∷ judges (whole 1 2 1 5 0)
    -- 48: a function's type that is void, another kind, or above n; a relocation's above n
    ∷ judges (whole 1 0 1 3 0)
    ∷ judges (whole 1 1 1 3 0)
    ∷ judges (whole 1 3 1 3 0)
    ∷ judges (whole 1 2 1 3 3)
    ∷ []

-- where the records of each part stand
abbrev places : ℕ → List ℕ
places x = map (λ (e : Entry). e.place) (part_entries (whole 1 2 1 3 0) x)

pub worked : (answers
    ≡ none ∷ none ∷ none ∷ some 45 ∷ some 45 ∷ none ∷ some 44 ∷ some 46 ∷ some 46 ∷ some 46 ∷ some 48 ∷ some 47 ∷ some 47 ∷ some 47 ∷ some 48 ∷ some 48 ∷ some 48 ∷ some 48
    ∷ [])
    -- as the join of this table with itself raises it: type numbers by 2, name offsets by 4
    × (items
    (section
    (32 ∷ 0 ∷ 20 ∷ 20 ∷ 28 ∷ 48 ∷ 28 ∷ 8 ∷ 5 ∷ 1 ∷ 0 ∷ 4 ∷ 16 ∷ 5 ∷ 1 ∷ 0 ∷ 5 ∷ 7 ∷ 5 ∷ 16 ∷ 5 ∷ 1 ∷ 8 ∷ 0 ∷ 7 ∷ 0 ∷ []))
    ≡ map (raise_item beside) (items (whole 1 2 1 3 0)))
    -- nothing is handed out of a section that is broken behind the record
    × (record_asked (functions (8 ∷ 1 ∷ 1 ∷ 0 ∷ 2 ∷ 1 ∷ 0 ∷ [])) 1 0 ≡ none)
    × (map places (0 ∷ 1 ∷ 2 ∷ 3 ∷ 4 ∷ []) ≡ [] ∷ (44 ∷ []) ∷ (64 ∷ []) ∷ (92 ∷ []) ∷ [] ∷ [])
unfolding section_computes
worked = (refl, refl, refl, refl)
