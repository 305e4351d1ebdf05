-- Order 3 by figures: the two readings of `D0 8A` among them. One computed check holds all. Assumes nothing.
use Prim.Native.Nat.{ℕ, ◌+◌, ◌*◌, ◌-◌, ◌^◌}
use mathlib.Core.Path.{◌≡◌, refl}
use mathlib.Core.Bool.{Bool, true, false, ◌&&◌}
use mathlib.Core.List.{List, [], ◌∷◌}
use lib.Dec.{eqb}
use lib.IntN.{ℤ, pos, negsuc}
use lib.ListN.{replicate}
use Rattle.paper.proofs.Bench.{failing}
use Rattle.paper.specs.rules.KindNo.{INT, PTR, STRUCT, ENUM, TYPEDEF}
use Rattle.paper.specs.rules.Table.{Record, Table}
use Rattle.values.specs.Value.{Read, refused, reads, bits_number, value_of, filled_up, span_bits, is_numeric, is_signed, read_member}
use Rattle.paper.specs.terms.Computes.{computes}

-- ── a table, and what is asked of it ──

abbrev rec : ℕ → ℕ → ℕ → ℕ → List ℕ → Record
rec flag kind vlen third tail = record { name_off = 0; info = flag * 2 ^ 31 + kind * 2 ^ 24 + vlen; third = third; tail = tail }

-- an INT by its size, encoding and width
abbrev int : ℕ → ℕ → ℕ → Record
int size encoding width = rec 0 INT 0 size ((encoding * 2 ^ 24 + width) ∷ [])

-- 1 to 4: an unsigned and a signed INT of two bytes, a char, a signed INT of sixteen bytes; 5, 6: an enum, and a signed one; 7: a name for 2; 8: a pointer
-- 9: a struct with a member of each at bit 0, the long one at bit 64; 10: a signed field of three bits from bit 2
abbrev T : Table
T =
    record {
      records = int 2 0 16 ∷ int 2 1 16 ∷ int 1 2 8 ∷ int 16 1 128 ∷ rec 0 ENUM 0 4 [] ∷ rec 1 ENUM 0 4 [] ∷ rec 0 TYPEDEF 0 2 [] ∷ rec 0 PTR 0 0 []
          ∷ rec 0 STRUCT 8 24 (0 ∷ 1 ∷ 0 ∷ 0 ∷ 2 ∷ 0 ∷ 0 ∷ 3 ∷ 0 ∷ 0 ∷ 5 ∷ 0 ∷ 0 ∷ 6 ∷ 0 ∷ 0 ∷ 7 ∷ 0 ∷ 0 ∷ 8 ∷ 0 ∷ 0 ∷ 4 ∷ 64 ∷ [])
          ∷ rec 1 STRUCT 1 2 (0 ∷ 2 ∷ (3 * 2 ^ 24 + 2) ∷ [])
          ∷ [];
      strings = 0 ∷ [];
    }

abbrev same_integer : ℤ → ℤ → Bool
same_integer (pos a) (pos b) = eqb a b
same_integer (pos a) (negsuc b) = false
same_integer (negsuc a) (pos b) = false
same_integer (negsuc a) (negsuc b) = eqb a b

abbrev is_read : ℕ → ℕ → ℤ → Read → Bool
is_read from size v (refused n) = false
is_read from size v (reads p signed xs) = eqb p.from from && eqb p.size size && same_integer (value_of signed xs) v

abbrev is_refused : ℕ → Read → Bool
is_refused n (refused k) = eqb n k
is_refused n (reads p signed xs) = false

-- a record that begins with two bytes, and goes on with zeros
abbrev begins : ℕ → ℕ → List ℕ
begins x y = x ∷ y ∷ replicate 22 0

abbrev read_benches : List Bool
read_benches =
    -- 1 to 3: "The sixteen bits `D0 8A` must read as 35,536 unsigned and as -30,000 signed, one by each type"; also through a TYPEDEF
    is_read 0 16 (pos 35536) (read_member T 9 0 (begins 0xd0 0x8a))
    ∷ is_read 0 16 (negsuc 29999) (read_member T 9 1 (begins 0xd0 0x8a))
    ∷ is_read 0 16 (negsuc 29999) (read_member T 9 5 (begins 0xd0 0x8a))
    -- 4 to 6: a char is unsigned; an enum is signed by its kind_flag
    ∷ is_read 0 8 (pos 255) (read_member T 9 2 (begins 0xff 0))
    ∷ is_read 0 32 (pos 4294967295) (read_member T 9 3 (0xff ∷ 0xff ∷ 0xff ∷ 0xff ∷ replicate 20 0))
    ∷ is_read 0 32 (negsuc 0) (read_member T 9 4 (0xff ∷ 0xff ∷ 0xff ∷ 0xff ∷ replicate 20 0))
    -- 7, 8: a field of three bits, 101 between a 1 and a 0 and then 010 between ones
    ∷ is_read 2 3 (negsuc 2) (read_member T 10 0 (0x16 ∷ 0 ∷ []))
    ∷ is_read 2 3 (pos 2) (read_member T 10 0 (0xeb ∷ 0xff ∷ []))
    -- 9: a span of 128 bits
    ∷ is_read 64 128 (negsuc 1) (read_member T 9 7 (0 ∷ 0 ∷ 0 ∷ 0 ∷ 0 ∷ 0 ∷ 0 ∷ 0 ∷ 0xfe ∷ replicate 15 0xff))
    -- 10, 11: filled up to 128 bits with the sign, or with zeros
    ∷ eqb (bits_number (filled_up true (1 ∷ 0 ∷ 1 ∷ []))) (2 ^ 128 - 3)
    ∷ eqb (bits_number (filled_up false (1 ∷ 0 ∷ 1 ∷ []))) 5
    -- 12 to 17: 21; 31 of void and before 30; 30 before 32; 32; 33 of a pointer
    ∷ is_refused 21 (read_member T 11 0 [])
    ∷ is_refused 31 (read_member T 0 0 [])
    ∷ is_refused 31 (read_member T 1 0 [])
    ∷ is_refused 30 (read_member T 10 1 (0 ∷ []))
    ∷ is_refused 32 (read_member T 10 1 (0 ∷ 0 ∷ []))
    ∷ is_refused 33 (read_member T 9 6 (begins 0 0))
    ∷ []

pub read-benches-hold : failing 1 read_benches ≡ []
unfolding computes value_of filled_up span_bits is_numeric is_signed read_member
read-benches-hold = refl
