-- Report 12: "a tail word breaks the list".
use Rattle.std.specs.Prelude.{ℕ, ◌+◌, ◌*◌, Bool, true, not, ◌&&◌, ◌||◌, List, [], ◌∷◌, eqb, leb, get_or}
use Rattle.paper.specs.rules.Choice.{member, differ, is_empty}
use Rattle.paper.specs.rules.KindNo.{INT, VAR, FUNC_PROTO}
use Rattle.paper.specs.rules.Table.{Record, Table, record_at, bits, kind_of}

-- the word of an INT: "bits 0 to 7 width, 16 to 23 offset, 24 to 27 encoding, the others 0"
abbrev pub width_in : ℕ → ℕ
width_in w = bits 0 7 w

abbrev pub offset_in : ℕ → ℕ
offset_in w = bits 16 23 w

abbrev pub encoding_in : ℕ → ℕ
encoding_in w = bits 24 27 w

-- "encoding 0, 1, 2 or 4; width at least 1; offset + width at most 8 times size (house)"
unfoldable pub int_word_ok : ℕ → ℕ → Bool
int_word_ok w size =
    eqb (bits 8 15 w) 0
    && eqb (bits 28 31 w) 0
    && member (encoding_in w) (0 ∷ 1 ∷ 2 ∷ 4 ∷ [])
    && leb 1 (width_in w)
    && leb (offset_in w + width_in w) (8 * size)

abbrev pub int_word : Record → ℕ
int_word r = get_or r.tail 0 0

-- "VAR linkage 0, 1, 2"
unfoldable pub linkage_word_ok : ℕ → Bool
linkage_word_ok w = member w (0 ∷ 1 ∷ 2 ∷ [])

pub record Parameter : Type 0 where
  pub name : ℕ
  pub type : ℕ

abbrev pub parameters_in : List ℕ → List Parameter
parameters_in [] = []
parameters_in (n ∷ []) = []
parameters_in (n ∷ t ∷ ws) = record { name = n; type = t } ∷ parameters_in ws

abbrev pub parameters_of : Record → List Parameter
parameters_of r = parameters_in r.tail

-- "a last 0/0": the parameter that stands for any number of others
unfoldable pub is_last00 : Parameter → List Parameter → Bool
is_last00 p behind = is_empty behind && eqb p.type 0 && eqb p.name 0

-- "A parameter of type 0 must be last and have name 0"
abbrev pub voids_last : List Parameter → Bool
voids_last [] = true
voids_last (p ∷ ps) = (differ p.type 0 || is_last00 p ps) && voids_last ps

unfoldable pub tail_ok : Record → Bool
tail_ok r =
    (differ (kind_of r) INT || int_word_ok (int_word r) r.third)
    && (differ (kind_of r) VAR || linkage_word_ok (get_or r.tail 0 0))
    && (differ (kind_of r) FUNC_PROTO || voids_last (parameters_of r))

unfoldable pub tail_bad : Table → ℕ → Bool
tail_bad T t = not (tail_ok (record_at T t))
