-- A member's span: which bits of a record it takes. Report 15 judges spans, and no rule but these makes one.
use Rattle.std.specs.Prelude.{ℕ, zero, suc, ◌+◌, ◌*◌, ◌%◌, Bool, true, false, not, cond, ◌&&◌, ◌||◌, List, [], ◌∷◌, leb, eqb}
use Rattle.std.proofs.Math.Option.{Option, none, some}
use Rattle.paper.specs.rules.Choice.{member}
use Rattle.paper.specs.rules.KindNo.{INT, ENUM, TYPEDEF, VOLATILE, CONST, RESTRICT, TYPE_TAG, ENUM64}
use Rattle.paper.specs.rules.Size.{small_size}
use Rattle.paper.specs.rules.Table.{Record, Table, count, record_at, kind_at, kind_of, bits}
use Rattle.paper.specs.rules.Tails.{int_word, offset_in, width_in}

pub record Member : Type 0 where
  pub name : ℕ
  pub type : ℕ
  pub offset : ℕ

abbrev pub members_in : List ℕ → List Member
members_in [] = []
members_in (n ∷ []) = []
members_in (n ∷ t ∷ []) = []
members_in (n ∷ t ∷ o ∷ ws) = record { name = n; type = t; offset = o } ∷ members_in ws

abbrev pub members_of : Record → List Member
members_of r = members_in r.tail

pub record Span : Type 0 where
  pub from : ℕ
  pub size : ℕ

-- "Follow TYPEDEF, qualifiers and TYPE_TAG to a base"
abbrev pub aliases : List ℕ
aliases = TYPEDEF ∷ VOLATILE ∷ CONST ∷ RESTRICT ∷ TYPE_TAG ∷ []

abbrev pub is_alias : ℕ → Bool
is_alias k = member k aliases

abbrev pub base_from : Table → ℕ → ℕ → ℕ
base_from T zero t = t
base_from T (suc steps) t = let u = base_from T steps (record_at T t).third in cond (is_alias (kind_at T t)) u t

unfoldable pub base_of : Table → ℕ → Record
base_of T t = record_at T (base_from T (count T) t)

-- "regular (offset 0, width 8, 16, 32, 64, 128)"
unfoldable pub is_regular_word : ℕ → Bool
is_regular_word w = eqb (offset_in w) 0 && member (width_in w) (8 ∷ 16 ∷ 32 ∷ 64 ∷ 128 ∷ [])

unfoldable pub is_regular : Record → Bool
is_regular r = eqb (kind_of r) INT && is_regular_word (int_word r)

-- "With kind_flag 1 the top 8 bits of the offset word are the field width w, the low 24 the bit offset"
abbrev pub bit_offset : ℕ → Member → ℕ
bit_offset flag m = cond (eqb flag 1) (bits 0 23 m.offset) m.offset

abbrev pub field_width : Member → ℕ
field_width m = bits 24 31 m.offset

abbrev pub span_if : Bool → ℕ → ℕ → Option Span
span_if ok from size = cond ok (some (record { from = from; size = size })) none

-- "8 times size from a multiple of 8"
unfoldable pub whole_span : ℕ → ℕ → Option Span
whole_span from size = span_if (eqb (from % 8) 0) from (8 * size)

-- "With kind_flag 0 an INT base member spans its width from bit offset + INT offset; other bases" whole
unfoldable pub plain_span : Record → Member → ℕ → Option Span
plain_span base m size =
    cond (eqb (kind_of base) INT)
    (span_if true (bit_offset 0 m + offset_in (int_word base)) (width_in (int_word base)))
    (whole_span (bit_offset 0 m) size)

-- with kind_flag 1: "w = 0: 8 times size, from a multiple of 8. w > 0: INT, ENUM or ENUM64 base, w at most 8 times its size"
unfoldable pub field_span : Record → Member → ℕ → Option Span
field_span base m size =
    cond (not (eqb (kind_of base) INT) || is_regular base)
    (cond (eqb (field_width m) 0)
    (whole_span (bit_offset 1 m) size)
    (span_if (member (kind_of base) (INT ∷ ENUM ∷ ENUM64 ∷ []) && leb (field_width m) (8 * size)) (bit_offset 1 m) (field_width m)))
    none

abbrev pub span_of_size : Table → ℕ → Member → Option ℕ → Option Span
span_of_size T flag m none = none
span_of_size T flag m (some size) =
    let base = base_of T m.type in
    cond (eqb flag 1) (field_span base m size) (plain_span base m size)

-- a member's span, or none: "a member must have a size", which may not overflow
unfoldable pub span_of : Table → ℕ → Member → Option Span
span_of T flag m = span_of_size T flag m (small_size T m.type)

abbrev pub ends_by : ℕ → Option Span → Bool
ends_by end none = false
ends_by end (some s) = leb (s.from + s.size) end
