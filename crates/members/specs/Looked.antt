-- A member's span from a blob and an index alone, whatever they are: the table that the index shows, and the types that it has no place for.
use Rattle.std.specs.Prelude.{ℕ, Bool, not, cond, ◌&&◌, List, [], eqb, ltb, length, get_or}
use Rattle.paper.specs.rules.Header.{header_length, order_of}
use Rattle.paper.specs.rules.Table.{Table, record_at}
use Rattle.paper.specs.rules.Word.{same_order}
use Rattle.paper.specs.declared.Order.TheVariants.{HighFirst}
use Rattle.values.specs.Given.{Finding}
use Rattle.values.specs.Sought.{no_span, sought_in}
use Rattle.views.specs.Shown.{table_by}
use Rattle.views.specs.declared.View.{View}

-- as many types as it has places, and no more than 32 bits count
abbrev pub places_in : List ℕ → ℕ
places_in index = cond (ltb (length index) 4294967296) (length index) 4294967295

abbrev pub view_in : List ℕ → List ℕ → View
view_in b index = record { n = places_in index; order = order_of b; before = 0 }

abbrev pub shown_in : List ℕ → List ℕ → Table
shown_in b index = table_by [] b index (view_in b index)

-- "a type number above n": behind the last record a check leaves 0, and no record stands inside the header
abbrev pub placeless : List ℕ → ℕ → Bool
placeless index t = not (eqb t 0) && ltb (get_or index t 0) header_length

-- 35, "right after 34", and 21 before all that is asked of the type
unfoldable pub sought_at : List ℕ → List ℕ → ℕ → ℕ → Finding
sought_at b index t m =
    cond (same_order (order_of b) HighFirst) (no_span 35 0)
    (cond (placeless index t) (no_span 21 0) (sought_in (shown_in b index) (record_at (shown_in b index) t) m))
