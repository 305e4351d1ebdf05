-- "Benches with known readings": the starred ones, the small others, and some of our own that the paper's slips call for.
-- One computed check holds them all. Assumes nothing.
use Prim.Native.Nat.{ℕ, suc, ◌+◌, ◌*◌, ◌^◌}
use mathlib.Core.Path.{◌≡◌, refl}
use mathlib.Core.Bool.{Bool, true, false, ◌&&◌}
use mathlib.Core.List.{List, [], ◌∷◌, ◌++◌}
use lib.Dec.{eqb}
use lib.ListN.{length, take, set, replicate}
use Rattle.paper.specs.rules.Answer.{Answer, inside, report, report_at, accepted, value}
use Rattle.paper.specs.rules.Choice.{same}
use Rattle.paper.specs.terms.Computes.{computes}
use Rattle.paper.specs.rules.Gate.{gate, zeros}
use Rattle.paper.specs.rules.Header.{opening}
use Rattle.paper.specs.rules.Join.{join}
use Rattle.paper.specs.rules.KindNo.{INT, PTR, ARRAY, STRUCT, UNION, ENUM, TYPEDEF, CONST, FUNC, FUNC_PROTO, VAR, DECL_TAG}
use Rattle.paper.specs.rules.Size.{size_of}
use Rattle.paper.specs.rules.Table.{Record}
use Rattle.paper.specs.rules.Walk.{bytes_of}
use Rattle.paper.specs.rules.Word.{bytes_of_words}
use Rattle.paper.specs.declared.Order.TheVariants.{LowFirst}

-- ── the paper's own bytes ──

abbrev E : List ℕ
E =
    0x9f ∷ 0xeb ∷ 1 ∷ 0 ∷ 0x18 ∷ 0 ∷ 0 ∷ 0
    ∷ 0 ∷ 0 ∷ 0 ∷ 0 ∷ 0 ∷ 0 ∷ 0 ∷ 0 ∷ 0 ∷ 0 ∷ 0 ∷ 0 ∷ 1 ∷ 0 ∷ 0 ∷ 0
    ∷ 0 ∷ []

-- header type_len 16, str_off 16, str_len 3
abbrev t_header : List ℕ
t_header =
    0x9f ∷ 0xeb ∷ 1 ∷ 0 ∷ 0x18 ∷ 0 ∷ 0 ∷ 0
    ∷ 0 ∷ 0 ∷ 0 ∷ 0 ∷ 16 ∷ 0 ∷ 0 ∷ 0 ∷ 16 ∷ 0 ∷ 0 ∷ 0 ∷ 3 ∷ 0 ∷ 0 ∷ 0 ∷ []

abbrev t_record : List ℕ
t_record = 1 ∷ 0 ∷ 0 ∷ 0 ∷ 0 ∷ 0 ∷ 0 ∷ 1 ∷ 2 ∷ 0 ∷ 0 ∷ 0 ∷ 0x10 ∷ 0 ∷ 0 ∷ 1 ∷ []

abbrev T : List ℕ
T = t_header ++ t_record ++ (0 ∷ 0x74 ∷ 0 ∷ [])

-- 61 bytes: header type_len 32, str_off 32, str_len 5; the second name offset 3
abbrev TT : List ℕ
TT =
    0x9f ∷ 0xeb ∷ 1 ∷ 0 ∷ 0x18 ∷ 0 ∷ 0 ∷ 0
    ∷ 0 ∷ 0 ∷ 0 ∷ 0 ∷ 32 ∷ 0 ∷ 0 ∷ 0 ∷ 32 ∷ 0 ∷ 0 ∷ 0 ∷ 5 ∷ 0 ∷ 0 ∷ 0
    ∷ 1 ∷ 0 ∷ 0 ∷ 0 ∷ 0 ∷ 0 ∷ 0 ∷ 1 ∷ 2 ∷ 0 ∷ 0 ∷ 0 ∷ 0x10 ∷ 0 ∷ 0 ∷ 1
    ∷ 3 ∷ 0 ∷ 0 ∷ 0 ∷ 0 ∷ 0 ∷ 0 ∷ 1 ∷ 2 ∷ 0 ∷ 0 ∷ 0 ∷ 0x10 ∷ 0 ∷ 0 ∷ 1
    ∷ 0 ∷ 0x74 ∷ 0 ∷ 0x74 ∷ 0 ∷ []

-- the same three big-endian
abbrev e_high : List ℕ
e_high =
    0xeb ∷ 0x9f ∷ 1 ∷ 0 ∷ 0 ∷ 0 ∷ 0 ∷ 0x18
    ∷ 0 ∷ 0 ∷ 0 ∷ 0 ∷ 0 ∷ 0 ∷ 0 ∷ 0 ∷ 0 ∷ 0 ∷ 0 ∷ 0 ∷ 0 ∷ 0 ∷ 0 ∷ 1
    ∷ 0 ∷ []

abbrev t_high : List ℕ
t_high =
    0xeb ∷ 0x9f ∷ 1 ∷ 0 ∷ 0 ∷ 0 ∷ 0 ∷ 0x18
    ∷ 0 ∷ 0 ∷ 0 ∷ 0 ∷ 0 ∷ 0 ∷ 0 ∷ 16 ∷ 0 ∷ 0 ∷ 0 ∷ 16 ∷ 0 ∷ 0 ∷ 0 ∷ 3
    ∷ 0 ∷ 0 ∷ 0 ∷ 1 ∷ 1 ∷ 0 ∷ 0 ∷ 0 ∷ 0 ∷ 0 ∷ 0 ∷ 2 ∷ 1 ∷ 0 ∷ 0 ∷ 0x10
    ∷ 0 ∷ 0x74 ∷ 0 ∷ []

abbrev tt_high : List ℕ
tt_high =
    0xeb ∷ 0x9f ∷ 1 ∷ 0 ∷ 0 ∷ 0 ∷ 0 ∷ 0x18
    ∷ 0 ∷ 0 ∷ 0 ∷ 0 ∷ 0 ∷ 0 ∷ 0 ∷ 32 ∷ 0 ∷ 0 ∷ 0 ∷ 32 ∷ 0 ∷ 0 ∷ 0 ∷ 5
    ∷ 0 ∷ 0 ∷ 0 ∷ 1 ∷ 1 ∷ 0 ∷ 0 ∷ 0 ∷ 0 ∷ 0 ∷ 0 ∷ 2 ∷ 1 ∷ 0 ∷ 0 ∷ 0x10
    ∷ 0 ∷ 0 ∷ 0 ∷ 3 ∷ 1 ∷ 0 ∷ 0 ∷ 0 ∷ 0 ∷ 0 ∷ 0 ∷ 2 ∷ 1 ∷ 0 ∷ 0 ∷ 0x10
    ∷ 0 ∷ 0x74 ∷ 0 ∷ 0x74 ∷ 0 ∷ []

-- ── tables by their records ──

-- kind, vlen, name, third word, tail; the strings are those of T, so that 1 is the name "t"
abbrev rec : ℕ → ℕ → ℕ → ℕ → List ℕ → Record
rec kind vlen name third tail = record { name_off = name; info = kind * 2 ^ 24 + vlen; third = third; tail = tail }

abbrev blob : List Record → List ℕ
blob rs = bytes_of LowFirst (record { records = rs; strings = 0 ∷ 0x74 ∷ 0 ∷ [] })

-- an INT of so many bytes, its offset and width
abbrev int : ℕ → ℕ → ℕ → Record
int size offset width = rec INT 0 0 size ((offset * 2 ^ 16 + width) ∷ [])

-- so many elements of a type, type 1 the index
abbrev array : ℕ → ℕ → Record
array type n = rec ARRAY 0 0 0 (type ∷ 1 ∷ n ∷ [])

-- a struct of so many bytes with one member, at a bit offset
abbrev struct : ℕ → ℕ → ℕ → Record
struct size type offset = rec STRUCT 1 1 size (1 ∷ type ∷ offset ∷ [])

-- a byte, then arrays one over the other, each of as many of the one before as the list says
abbrev tower : ℕ → List ℕ → List Record
tower below [] = []
tower below (n ∷ ns) = array below n ∷ tower (suc below) ns

abbrev arrays : List ℕ → List ℕ
arrays ns = blob (int 1 0 8 ∷ tower 1 ns)

-- the sum of the sections is 2 ^ 32 + 25, and the blob has 25 bytes
abbrev wrapping : List ℕ
wrapping = opening LowFirst ++ bytes_of_words LowFirst (24 ∷ 0 ∷ 4294967292 ∷ 4294967292 ∷ 5 ∷ []) ++ (0 ∷ [])

-- a struct of two members, a tag on the second, a pointer to void and one to the struct, with every number raised by types and names
abbrev tagged : ℕ → ℕ → List Record
tagged types names =
    rec INT 0 0 4 (32 ∷ [])
    ∷ rec STRUCT 2 (1 + names) 8 ((1 + names) ∷ (1 + types) ∷ 0 ∷ (1 + names) ∷ (1 + types) ∷ 32 ∷ [])
    ∷ rec DECL_TAG 0 (1 + names) (2 + types) (1 ∷ [])
    ∷ rec PTR 0 0 0 []
    ∷ rec PTR 0 0 (2 + types) []
    ∷ []

-- a struct that holds a union in a member without a name, with every number raised by types and names
abbrev unnamed : ℕ → ℕ → List Record
unnamed types names =
    rec INT 0 0 4 (32 ∷ [])
    ∷ rec UNION 1 0 4 ((1 + names) ∷ (1 + types) ∷ 0 ∷ [])
    ∷ rec STRUCT 1 (1 + names) 4 (0 ∷ (2 + types) ∷ 0 ∷ [])
    ∷ []

-- a function and a variable of these linkages
abbrev linked : ℕ → ℕ → List ℕ
linked function variable =
    blob (int 4 0 32 ∷ rec FUNC_PROTO 0 0 0 [] ∷ rec FUNC function 1 2 [] ∷ rec VAR 0 1 1 (variable ∷ []) ∷ [])

-- ── what is asked of each ──

abbrev same_answer : Answer → Answer → Bool
same_answer a b = eqb a.number b.number && eqb a.inner b.inner && eqb a.t b.t && eqb a.p b.p

-- a check with 8 places answers so and leaves this index
abbrev gives : List ℕ → Answer → List ℕ → Bool
gives b a index =
    let g = gate b 8 8 in same_answer g.answer a && same g.index index && same g.work (zeros 8)

abbrev refuses : List ℕ → ℕ → ℕ → ℕ → Bool
refuses b number type place = gives b (report_at number type place) (zeros 8)

-- accepted with so many types, and a type's size is answered so from the index that the check left
abbrev sizes : List ℕ → ℕ → ℕ → Answer → Bool
sizes b n type a =
    let g = gate b 8 8 in same_answer g.answer (accepted n) && same_answer (size_of b g.index type) a

-- a join into an output longer than needed gives these bytes and leaves the rest
abbrev joins : List ℕ → List ℕ → List ℕ → Bool
joins a b whole =
    let j = join a b 8 8 (replicate (length whole + 3) 165) in
    same_answer j.answer (value (length whole))
    && same j.output (whole ++ (165 ∷ 165 ∷ 165 ∷ []))
    && same j.index (zeros 8)
    && same j.work (zeros 8)

-- a join is refused with this answer, and leaves the output as it was
abbrev unjoined : List ℕ → List ℕ → Answer → Bool
unjoined a b refused =
    let j = join a b 8 8 (replicate 64 165) in
    same_answer j.answer refused
    && same j.output (replicate 64 165)
    && same j.index (zeros 8)
    && same j.work (zeros 8)

-- the numbers, from 1, of the tests that fail
abbrev pub failing : ℕ → List Bool → List ℕ
failing k [] = []
failing k (true ∷ ts) = failing (suc k) ts
failing k (false ∷ ts) = k ∷ failing (suc k) ts

-- 000's bit field in a struct of so many bytes: offset 100, INT offset 2, width 4
abbrev bit_field : ℕ → ℕ → List ℕ
bit_field size offset = blob (int 4 2 4 ∷ struct size 1 offset ∷ [])

pub benches : List Bool
unfolding computes
benches =
    -- 1 to 4: E; E with flags 1; its first 23 bytes; its first 24 with str_len 0
    gives E (accepted 0) (zeros 8)
    ∷ refuses (set E 3 1) 2 0 0
    ∷ refuses (take 23 E) 1 0 0
    ∷ refuses (take 24 (set E 20 0)) 5 0 0
    -- 5 to 8: T with its index and size; width 17; kind 20
    ∷ gives T (accepted 1) (0 ∷ 24 ∷ zeros 6)
    ∷ sizes T 1 1 (value 2)
    ∷ refuses (set T 36 17) 12 1 24
    ∷ refuses (set T 31 20) 7 1 24
    -- 9, 10: CONST to itself; PTR to itself
    ∷ refuses (blob (rec CONST 0 0 1 [] ∷ [])) 14 1 24
    ∷ refuses (blob (rec PTR 0 0 1 [] ∷ [])) 14 1 24
    -- 11: T joined to T
    ∷ joins T T TT
    -- 12, 13: 000's bit field, in 14 bytes and in 13
    ∷ gives (bit_field 14 100) (accepted 2) (0 ∷ 24 ∷ 40 ∷ zeros 5)
    ∷ refuses (bit_field 13 100) 15 2 40
    -- not starred, 14 to 18: CONST to a struct that holds itself; int a[5][6]; the two products
    ∷ refuses (blob (rec CONST 0 0 2 [] ∷ struct 8 2 0 ∷ [])) 14 1 24
    ∷ sizes (blob (int 4 0 32 ∷ array 1 6 ∷ array 2 5 ∷ [])) 3 2 (value 24)
    ∷ sizes (blob (int 4 0 32 ∷ array 1 6 ∷ array 2 5 ∷ [])) 3 3 (value 120)
    ∷ sizes (arrays (65537 ∷ 65535 ∷ [])) 3 3 (value 4294967295)
    ∷ sizes (arrays (65536 ∷ 65536 ∷ [])) 3 3 (report 2 0)
    -- ours, 19 to 22: zero elements of an overflowing type; a sum that wraps in 32 bits; a bit field to the last bit, and one bit past it
    ∷ sizes (arrays (65536 ∷ 65536 ∷ 0 ∷ [])) 4 4 (value 0)
    ∷ refuses wrapping 4 0 0
    ∷ gives (bit_field 14 106) (accepted 2) (0 ∷ 24 ∷ 40 ∷ zeros 5)
    ∷ refuses (bit_field 14 107) 15 2 40
    -- 23, 24: references and names are raised, void, offset 0, sizes, offsets and a tag's component are not; the empty table is neutral
    ∷ joins T (blob (tagged 0 0))
    (bytes_of LowFirst (record { records = rec INT 0 1 2 (16777232 ∷ []) ∷ tagged 1 2; strings = 0 ∷ 0x74 ∷ 0 ∷ 0x74 ∷ 0 ∷ [] }))
    ∷ (joins E (blob (tagged 0 0)) (blob (tagged 0 0)) && joins (blob (tagged 0 0)) E (blob (tagged 0 0)))
    -- order 1, 25 to 28: a member without a name; its offset stays 0 in a join; another empty name is none; an enum's value must have one
    ∷ gives (blob (unnamed 0 0)) (accepted 3) (0 ∷ 24 ∷ 40 ∷ 64 ∷ zeros 4)
    ∷ joins T (blob (unnamed 0 0))
    (bytes_of LowFirst (record { records = rec INT 0 1 2 (16777232 ∷ []) ∷ unnamed 1 2; strings = 0 ∷ 0x74 ∷ 0 ∷ 0x74 ∷ 0 ∷ [] }))
    ∷ refuses (blob (int 4 0 32 ∷ rec STRUCT 1 0 4 (2 ∷ 1 ∷ 0 ∷ []) ∷ [])) 11 2 40
    ∷ refuses (blob (rec ENUM 1 0 4 (0 ∷ 0 ∷ []) ∷ [])) 11 1 24
    -- order 12, 29 to 31: a FUNC of linkage 1, and of linkage 2; a VAR of linkage 2
    ∷ gives (linked 1 0) (accepted 4) (0 ∷ 24 ∷ 40 ∷ 52 ∷ 64 ∷ zeros 3)
    ∷ refuses (linked 2 0) 10 3 52
    ∷ gives (linked 0 2) (accepted 4) (0 ∷ 24 ∷ 40 ∷ 52 ∷ 64 ∷ zeros 3)
    -- order 6, 32 and 33: a struct with a pointer to itself; the same through CONST and TYPEDEF
    ∷ gives (blob (struct 8 2 0 ∷ rec PTR 0 0 1 [] ∷ [])) (accepted 2) (0 ∷ 24 ∷ 48 ∷ zeros 5)
    ∷ gives (blob (struct 8 2 0 ∷ rec PTR 0 0 3 [] ∷ rec CONST 0 0 4 [] ∷ rec TYPEDEF 0 1 1 [] ∷ [])) (accepted 4)
    (0 ∷ 24 ∷ 48 ∷ 60 ∷ 72 ∷ zeros 3)
    -- 34 to 37: a ring of PTR and CONST; a self-pointer behind a TYPEDEF, which is named, and behind a struct and a VAR, which are not
    ∷ refuses (blob (rec PTR 0 0 2 [] ∷ rec CONST 0 0 1 [] ∷ [])) 14 1 24
    ∷ refuses (blob (rec TYPEDEF 0 1 2 [] ∷ rec PTR 0 0 2 [] ∷ [])) 14 1 24
    ∷ refuses (blob (struct 8 2 0 ∷ rec PTR 0 0 2 [] ∷ [])) 14 2 48
    ∷ refuses (blob (rec VAR 0 1 2 (0 ∷ []) ∷ rec PTR 0 0 2 [] ∷ [])) 14 2 40
    -- 38, 39: chains over all types of a table, of which one ends in a struct and one in void
    ∷ gives (blob (rec PTR 0 0 2 [] ∷ rec CONST 0 0 3 [] ∷ rec PTR 0 0 4 [] ∷ rec STRUCT 0 1 0 [] ∷ [])) (accepted 4)
    (0 ∷ 24 ∷ 36 ∷ 48 ∷ 60 ∷ zeros 3)
    ∷ gives (blob (rec PTR 0 0 2 [] ∷ rec CONST 0 0 3 [] ∷ rec PTR 0 0 0 [] ∷ [])) (accepted 3) (0 ∷ 24 ∷ 36 ∷ 48 ∷ zeros 4)
    -- 40: the size that bench 10 gave a pointer before order 6
    ∷ sizes (blob (rec PTR 0 0 0 [] ∷ [])) 1 1 (value 8)
    -- order 4, 41 to 43: E big-endian; with version and flags turned round; with its first byte only
    ∷ gives e_high (accepted 0) (zeros 8)
    ∷ refuses (set (set e_high 2 0) 3 1) 2 0 0
    ∷ refuses (set e_high 1 0xeb) 2 0 0
    -- 44 to 47: T big-endian, with its index and size; joined to itself; with E of its order on either side
    ∷ gives t_high (accepted 1) (0 ∷ 24 ∷ zeros 6)
    ∷ sizes t_high 1 1 (value 2)
    ∷ joins t_high t_high tt_high
    ∷ (joins e_high t_high t_high && joins t_high e_high t_high)
    -- 48 to 50: two orders, either way round; a second table of the other order that is refused itself
    ∷ unjoined T t_high (report 24 0)
    ∷ unjoined e_high T (report 24 0)
    ∷ unjoined T (take 23 e_high) (inside 17 (report 1 0))
    ∷ []

pub benches-hold : failing 1 benches ≡ []
unfolding computes benches
benches-hold = refl
