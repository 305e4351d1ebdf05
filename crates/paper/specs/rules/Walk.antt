-- Phase 2, reports 6 to 8; the table that a blob holds and the blob that holds a table; the places.
use Rattle.std.specs.Prelude.{ℕ, zero, suc, ◌+◌, ◌*◌, Bool, cond, ◌&&◌, List, [], ◌∷◌, ◌++◌, leb, length, get_or, take, drop}
use Rattle.paper.specs.rules.Header.{header_length, opening, order_of, type_len, strings_in}
use Rattle.paper.specs.rules.KindNo.{INT, ENUM64}
use Rattle.paper.specs.rules.Limits.{type_limit}
use Rattle.paper.specs.rules.Table.{Record, Table, kind_in, tail_length, words_of}
use Rattle.paper.specs.rules.Word.{words, bytes_of_words}
use Rattle.paper.specs.declared.Order.{Order}

-- what a walk of the type section finds: its records, or a report's number, the record that it names and that record's place
pub data Walked : Type 0 where
  records : List Record → Walked
  stopped : ℕ → ℕ → ℕ → Walked

-- a record in front of what the rest of the walk finds
abbrev pub ahead : Record → Walked → Walked
ahead r (records rs) = records (r ∷ rs)
ahead r (stopped n t p) = stopped n t p

abbrev pub known : ℕ → Bool
known k = leb INT k && leb k ENUM64

-- the record of a head and the words behind it, then the rest; 7: "head fits, kind 0 or 20 to 31"; 6: the tail does not fit
unfoldable pub walk_record : (List ℕ → Walked) → ℕ → ℕ → ℕ → ℕ → ℕ → List ℕ → Walked
walk_record rest k p n i t ws =
    cond (known (kind_in i))
    (cond (leb (tail_length i) (length ws))
    (ahead (record { name_off = n; info = i; third = t; tail = take (tail_length i) ws }) (rest (drop (tail_length i) ws)))
    (stopped 6 k p))
    (stopped 7 k p)

-- the walk from record k on, which stands at place p, over the words that are left, where so many records more may stand
-- 8: "bytes remain after record" 16,384 "(before 6 and 7)"; 6: the 12-byte head does not fit
abbrev pub walk_from : ℕ → ℕ → ℕ → List ℕ → Walked
walk_from zero k p [] = records []
walk_from zero k p (n ∷ ws) = stopped 8 k p
walk_from (suc room) k p [] = records []
walk_from (suc room) k p (n ∷ []) = stopped 6 k p
walk_from (suc room) k p (n ∷ i ∷ []) = stopped 6 k p
walk_from (suc room) k p (n ∷ i ∷ t ∷ ws) =
    walk_record (λ (left : List ℕ). walk_from room (suc k) (p + 12 + 4 * tail_length i) left) k p n i t ws

-- the words of a blob's type section, and its walk
unfoldable pub type_words : List ℕ → List ℕ
type_words b = words (order_of b) (take (type_len b) (drop header_length b))

unfoldable pub walk : List ℕ → Walked
walk b = walk_from type_limit 1 header_length (type_words b)

abbrev pub records_in : Walked → List Record
records_in (records rs) = rs
records_in (stopped n t p) = []

-- the table that a blob holds
unfoldable pub table_of : List ℕ → Table
table_of b = record { records = records_in (walk b); strings = strings_in b }

-- the words of some records, one after the other
abbrev pub flat : List Record → List ℕ
flat [] = []
flat (r ∷ rs) = words_of r ++ flat rs

-- how many bytes some records take
abbrev pub type_len_of : List Record → ℕ
type_len_of rs = 4 * length (flat rs)

-- how long the blob is that holds a table, in any order
abbrev pub blob_length : Table → ℕ
blob_length T = header_length + type_len_of T.records + length T.strings

-- the blob that holds a table, its words in an order: header, records, strings
unfoldable pub bytes_of : Order → Table → List ℕ
bytes_of order T =
    let n = type_len_of T.records in
    opening order
    ++ bytes_of_words order (header_length ∷ 0 ∷ n ∷ n ∷ length T.strings ∷ [])
    ++ bytes_of_words order (flat T.records)
    ++ T.strings

-- "place k the byte place of record k in the blob"
abbrev pub places_from : ℕ → List Record → List ℕ
places_from p [] = []
places_from p (r ∷ rs) = p ∷ places_from (p + 4 * length (words_of r)) rs

unfoldable pub places_of : Table → List ℕ
places_of T = places_from header_length T.records

-- the place of a type's record; 0 for void and for a number above n
unfoldable pub place_at : Table → ℕ → ℕ
place_at T t = get_or (0 ∷ places_of T) t 0
