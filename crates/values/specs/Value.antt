-- Order 3, "Reading the records themselves": a record's bits, and what those of a member's span say.
use Rattle.std.specs.Prelude.{ℕ, zero, suc, ◌+◌, ◌*◌, ◌-◌, ◌%◌, ◌/◌, ◌^◌, Bool, not, cond, ◌&&◌, List, [], ◌∷◌, ◌++◌, leb, ltb, eqb, ℤ, pos, negsuc, length, get_or, take, drop, replicate}
use Rattle.std.proofs.Math.Option.{Option, none, some}
use Rattle.paper.specs.rules.Choice.{Rule, ◌when◌, first_due, member}
use Rattle.paper.specs.rules.KindNo.{INT, STRUCT, UNION, ENUM, ENUM64}
use Rattle.paper.specs.rules.Span.{Member, Span, members_of, base_of, span_of}
use Rattle.paper.specs.rules.Table.{Record, Table, count, record_at, kind_of, vlen_of, flag_of}
use Rattle.paper.specs.rules.Tails.{encoding_in, int_word}

-- ── bits ──

-- so many bits of a number, "low bit first"
abbrev pub bits_of : ℕ → ℕ → List ℕ
bits_of zero x = []
bits_of (suc k) x = x % 2 ∷ bits_of k (x / 2)

-- a record's bits: eight of each byte
abbrev pub record_bits : List ℕ → List ℕ
record_bits [] = []
record_bits (x ∷ xs) = bits_of 8 x ++ record_bits xs

-- the number that bits are
abbrev pub bits_number : List ℕ → ℕ
bits_number [] = 0
bits_number (x ∷ xs) = x + 2 * bits_number xs

abbrev pub top_bit : List ℕ → ℕ
top_bit [] = 0
top_bit (x ∷ []) = x
top_bit (x ∷ y ∷ ys) = top_bit (y ∷ ys)

-- "exact values, minus ones included": with the top bit as sign, 2^bits less than the number where it is 1 (`negsuc k` is -(k + 1))
unfoldable pub value_of : Bool → List ℕ → ℤ
value_of signed xs =
    cond (signed && eqb (top_bit xs) 1) (negsuc (2 ^ length xs - suc (bits_number xs))) (pos (bits_number xs))

-- "filled up with zero bits, or with its top bit where it is signed", to 128
unfoldable pub filled_up : Bool → List ℕ → List ℕ
filled_up signed xs = xs ++ replicate (128 - length xs) (cond signed (top_bit xs) 0)

-- "The bits of paper 01's span are the value"
unfoldable pub span_bits : Span → List ℕ → List ℕ
span_bits p s = take p.size (drop p.from (record_bits s))

-- ── members ──

-- "integer" or "enum"
unfoldable pub is_numeric : Record → Bool
is_numeric base = member (kind_of base) (INT ∷ ENUM ∷ ENUM64 ∷ [])

-- "an INT signed by encoding 1 only, an enum by its kind_flag"
unfoldable pub is_signed : Record → Bool
is_signed base = cond (eqb (kind_of base) INT) (eqb (encoding_in (int_word base)) 1) (eqb (flag_of base) 1)

-- a member by its number from 0; what is not there is a member of void
abbrev pub no_member : Member
no_member = record { name = 0; type = 0; offset = 0 }

abbrev pub member_of : Record → ℕ → Member
member_of r m = get_or (members_of r) m no_member

-- "a type number above n"; "a type that isn't a struct or union"; "A record shorter than the type"; "a member number out of range";
-- "a member that is neither integer nor enum": "in the order 31, 30, 32, 33"
abbrev pub member_rules : Table → ℕ → Record → ℕ → List ℕ → List Rule
member_rules T t r m s =
    21 when ltb (count T) t
    ∷ 31 when not (member (kind_of r) (STRUCT ∷ UNION ∷ []))
    ∷ 30 when ltb (length s) r.third
    ∷ 32 when leb (vlen_of r) m
    ∷ 33 when not (is_numeric (base_of T (member_of r m).type))
    ∷ []

-- what a member of a record says: a refusal's number, or its span, whether it is signed, and its bits
pub data Read : Type 0 where
  refused : ℕ → Read
  reads : Span → Bool → List ℕ → Read

-- an accepted table's numeric member has a span
abbrev pub read_span : Bool → List ℕ → Option Span → Read
read_span signed s none = refused 33
read_span signed s (some p) = reads p signed (span_bits p s)

abbrev pub read_unless : Option ℕ → Read → Read
read_unless none x = x
read_unless (some number) x = refused number

-- a member of a record that stands at a number of a table
abbrev pub read_record : Table → ℕ → Record → ℕ → List ℕ → Read
read_record T t r m s =
    let base = base_of T (member_of r m).type in
    read_unless (first_due (member_rules T t r m s)) (read_span (is_signed base) s (span_of T (flag_of r) (member_of r m)))

unfoldable pub read_member : Table → ℕ → ℕ → List ℕ → Read
read_member T t m s = read_record T t (record_at T t) m s
