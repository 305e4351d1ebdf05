-- What one look at a record tells, by what is told of the types that it refers to. Of any table and any slice.
use Rattle.std.specs.Prelude.{ℕ, ◌+◌, ◌*◌, ◌/◌, ◌%◌, ◌≤◌, ◌<◌, ◌≡◌, Bool, true, false, not, cond, ◌&&◌, ◌||◌, List, [], ◌∷◌, ◌⊎◌, eqb, leb, get_or, length}
use Rattle.paper.specs.rules.Chain.{endless, held_by, pointed_by, walks}
use Rattle.paper.specs.rules.Choice.{every, member}
use Rattle.paper.specs.rules.KindNo.{INT, PTR, ARRAY, STRUCT, UNION, ENUM, FWD, FUNC, FUNC_PROTO, VAR, DATASEC, FLOAT, ENUM64}
use Rattle.paper.specs.rules.Layout.{all_named, layout_ok, offsets_ok}
use Rattle.paper.specs.rules.References.{is_plain, refs_ok}
use Rattle.paper.specs.rules.Section.{Entry, entries_of, placed_from}
use Rattle.paper.specs.rules.Span.{Member, bit_offset, field_width, members_of, is_alias, is_regular_word}
use Rattle.paper.specs.rules.Table.{Record, Table, count, record_at, kind_of, flag_of}
use Rattle.paper.specs.rules.Tails.{Parameter, int_word, parameters_of, width_in}

-- A state: 0 is a type of which nothing is told yet; else 16 times its size and a class.

-- whole bytes; an INT that has no bits but those of its size; an alias of one; any plain type of which no size is told
abbrev pub whole : ℕ
whole = 1

abbrev pub integer : ℕ
integer = 2

abbrev pub unsized : ℕ
unsized = 3

abbrev pub integer_alias : ℕ
integer_alias = 5

abbrev pub is_integer : ℕ → Bool
is_integer class = eqb class integer || eqb class integer_alias

-- a FUNC_PROTO itself that names its parameters
abbrev pub named : ℕ
named = 6

-- a plain type of which no more is told yet than that, and that no walk over pointers from it is endless
abbrev pub awaiting : ℕ
awaiting = 7

-- whole bytes of an ENUM or an ENUM64, or of an alias of one
abbrev pub enumerated : ℕ
enumerated = 8

abbrev pub is_bytes : ℕ → Bool
is_bytes class = eqb class whole || eqb class enumerated

-- a VAR's; no class from this one on is a plain type's
abbrev pub stored : ℕ
stored = 9

-- any other type's that is not plain
abbrev pub not_plain : ℕ
not_plain = 10

-- classes of types that have a size and are plain
abbrev pub is_sized : ℕ → Bool
is_sized class = is_integer class || is_bytes class

-- states that a later look may change
abbrev pub is_open : ℕ → Bool
is_open s = eqb s 0 || eqb s awaiting

abbrev pub Open : ℕ → Type 0
Open s = is_open s ≡ true

abbrev pub state_of : List ℕ → ℕ → ℕ
state_of work u = get_or work u 0

-- that of a plain type's alias; 0 of another
abbrev pub through : ℕ → ℕ
through s = cond (eqb (s % 16) integer) (s + 3) (cond (leb stored (s % 16)) 0 (cond (eqb (s % 16) named) unsized s))

-- that of what an alias names, or a pointer points at
abbrev pub behind : List ℕ → ℕ → ℕ
behind work u = cond (eqb u 0) unsized (through (state_of work u))

-- a member whose type has a state, at a bit offset, ends by so many bytes
abbrev pub fits : ℕ → ℕ → ℕ → Bool
fits s o z = (is_integer (s % 16) || (is_bytes (s % 16) && eqb (o % 8) 0)) && leb (o + 8 * (s / 16)) (8 * z)

abbrev pub member_fits : List ℕ → Record → Member → Bool
member_fits work r m = fits (state_of work m.type) m.offset r.third

-- classes of what a field of some bits may be of
abbrev pub is_number : ℕ → Bool
is_number class = is_integer class || eqb class enumerated

-- a member of a record with bit fields, of w bits or whole where w is 0, at a bit offset, ends by so many bytes
abbrev pub field_fits : ℕ → ℕ → ℕ → ℕ → Bool
field_fits s w o z =
    cond (eqb w 0) (is_sized (s % 16) && eqb (o % 8) 0 && leb (o + 8 * (s / 16)) (8 * z))
    (is_number (s % 16) && leb w (8 * (s / 16)) && leb (o + w) (8 * z))

abbrev pub member_lies : List ℕ → Record → Member → Bool
member_lies work r m = field_fits (state_of work m.type) (field_width m) (bit_offset 1 m) r.third

abbrev pub fields_fit : List ℕ → Record → Bool
fields_fit work r = every (member_lies work r) (members_of r) && offsets_ok r

-- an INT's bits are those of its size, and regular
abbrev pub whole_int : ℕ → ℕ → Bool
whole_int w z = is_regular_word w && eqb (width_in w) (8 * z)

-- sizes that a state can have
abbrev pub size_end : ℕ
size_end = 268435456

-- the members of a record without bit fields
abbrev pub members_fit : List ℕ → Record → Bool
members_fit work r = every (member_fits work r) (members_of r) && offsets_ok r

-- a size that is told, or 0
abbrev pub Stated : ℕ → ℕ → ℕ → Type 0
Stated z class s = (s ≡ 0) ⊎ ((z < size_end) × (s ≡ 16 * z + class))

abbrev pub enum_kinds : List ℕ
enum_kinds = ENUM ∷ ENUM64 ∷ []

-- an ARRAY's element and index
abbrev pub element_type_of : Record → ℕ
element_type_of r = get_or r.tail 0 0

abbrev pub index_type_of : Record → ℕ
index_type_of r = get_or r.tail 1 0

-- and its size, by its element's
abbrev pub array_size : List ℕ → Record → ℕ
array_size work r = get_or r.tail 2 0 * (state_of work (element_type_of r) / 16)

-- an entry is at least as large as its variable
abbrev pub covers : ℕ → ℕ → Bool
covers s size = eqb (s % 16) stored && leb (s / 16) size

abbrev pub entry_fits : List ℕ → Entry → Bool
entry_fits work e = covers (state_of work e.variable) e.size

abbrev pub section_fits : List ℕ → Record → Bool
section_fits work r = every (entry_fits work) (entries_of r) && (eqb r.third 0 || placed_from r.third 0 (entries_of r))

-- a parameter's type is void, or known to be plain
abbrev pub parameter_seen : List ℕ → Parameter → Bool
parameter_seen work p = not (eqb (behind work p.type) 0)

-- plain kinds from which no walk over pointers goes, whose types may wait for those that they refer to
abbrev pub waiting_kinds : List ℕ
waiting_kinds = ARRAY ∷ STRUCT ∷ UNION ∷ FUNC_PROTO ∷ []

-- what a record says of its type, beside the states of others
pub data Looks (work : List ℕ) (r : Record) (s : ℕ) : Type 0 where
  alias : is_alias (kind_of r) ≡ true → s ≡ behind work r.third → Looks work r s
  pointer : kind_of r ≡ PTR → (behind work r.third ≡ 0 → ⊥) → s ≡ 129 → Looks work r s
  int : kind_of r ≡ INT → is_regular_word (int_word r) ≡ true → width_in (int_word r) ≡ 8 * r.third → r.third < size_end → s ≡ 16 * r.third + integer
      → Looks work r s
  float : kind_of r ≡ FLOAT → r.third < size_end → s ≡ 16 * r.third + whole → Looks work r s
  enumeration : member (kind_of r) enum_kinds ≡ true → r.third < size_end → s ≡ 16 * r.third + enumerated → Looks work r s
  group : member (kind_of r) (STRUCT ∷ UNION ∷ []) ≡ true → flag_of r ≡ 0 → every (member_fits work r) (members_of r) ≡ true → offsets_ok r ≡ true
      → r.third < size_end → s ≡ 16 * r.third + whole → Looks work r s
  fields : member (kind_of r) (STRUCT ∷ UNION ∷ []) ≡ true → flag_of r ≡ 1 → every (member_lies work r) (members_of r) ≡ true → offsets_ok r ≡ true
      → r.third < size_end → s ≡ 16 * r.third + whole → Looks work r s
  array : kind_of r ≡ ARRAY → is_sized (state_of work (element_type_of r) % 16) ≡ true → state_of work (index_type_of r) % 16 ≡ integer → array_size work r < size_end
      → s ≡ 16 * array_size work r + whole → Looks work r s
  variable : kind_of r ≡ VAR → is_sized (state_of work r.third % 16) ≡ true → s ≡ 16 * (state_of work r.third / 16) + stored → Looks work r s
  section : kind_of r ≡ DATASEC → section_fits work r ≡ true → s ≡ not_plain → Looks work r s
  forward : kind_of r ≡ FWD → s ≡ unsized → Looks work r s
  prototype : kind_of r ≡ FUNC_PROTO → (behind work r.third ≡ 0 → ⊥) → every (parameter_seen work) (parameters_of r) ≡ true
      → s ≡ cond (all_named (parameters_of r)) named unsized → Looks work r s
  function : kind_of r ≡ FUNC → state_of work r.third ≡ named → s ≡ not_plain → Looks work r s
  awaits : member (kind_of r) waiting_kinds ≡ true → s ≡ awaiting → Looks work r s

-- a record of a kind that is not looked at, told from one that is still open
abbrev pub strange : ℕ
strange = 4

abbrev pub Glimpsed : List ℕ → Record → ℕ → Type 0
Glimpsed work r s = (s ≡ 0) ⊎ ((s ≡ strange) ⊎ Looks work r s)

-- ── over the types ──

-- a type that is settled: its references are good, and no walk from it has so many steps
pub record Settled (T : Table) (work : List ℕ) (steps x : ℕ) : Type 0 where
  pub refs : refs_ok T (record_at T x) ≡ true
  pub looks : Looks work (record_at T x) (state_of work x)
  pub held : walks (held_by T) steps x ≡ false
  pub pointed : walks (pointed_by T) steps x ≡ false

-- a type that awaits others: it is plain, and no walk over pointers from it has so many steps
pub record Waiting (T : Table) (steps x : ℕ) : Type 0 where
  pub plain : is_plain (kind_of (record_at T x)) ≡ true
  pub pointed : walks (pointed_by T) steps x ≡ false

-- the types of a table, some of which are settled
pub record Glancing (T : Table) (n : ℕ) (work : List ℕ) : Type 0 where
  pub counted : n ≡ count T
  pub room : n < length work
  pub steps : ℕ
  pub told : (x : ℕ) → (Open (state_of work x) → ⊥) → Settled T work steps x
  pub waits : (x : ℕ) → state_of work x ≡ awaiting → Waiting T steps x
  pub outside : (x : ℕ) → (x ≡ 0) ⊎ (n < x) → state_of work x ≡ 0

-- a type was looked at: 2 means that it is settled; none that was is open again
pub record Went (T : Table) (n t : ℕ) (work : List ℕ) (r : ℕ) (work' : List ℕ) : Type 0 where
  pub now : Glancing T n work'
  pub here : r ≡ 2 → Open (state_of work' t) → ⊥
  pub keeps : (x : ℕ) → (Open (state_of work x) → ⊥) → Open (state_of work' x) → ⊥

-- all are
abbrev pub All : ℕ → List ℕ → Type 0
All n work = (x : ℕ) → 1 ≤ x → x ≤ n → Open (state_of work x) → ⊥

-- what is promised of a table that is good for sure
pub record SurelyGood (T : Table) (n : ℕ) : Type 0 where
  pub refs : (t : ℕ) → 1 ≤ t → t ≤ n → refs_ok T (record_at T t) ≡ true
  pub ends : (t : ℕ) → 1 ≤ t → t ≤ n → endless T t ≡ false
  pub layout : (t : ℕ) → 1 ≤ t → t ≤ n → layout_ok T (record_at T t) ≡ true
