-- "Name at an offset", its second question, and identifiers.
use Rattle.std.specs.Prelude.{ℕ, ◌+◌, Bool, not, cond, ◌&&◌, ◌||◌, List, [], ◌∷◌, leb, ltb, eqb, length, drop}
use Rattle.std.proofs.Math.Option.{Option, none, some}
use Rattle.paper.specs.rules.Choice.{every, is_some}
use Rattle.paper.specs.rules.Header.{header_length, type_len, strings_in, str_len, header_report}

-- up to the first zero byte
abbrev pub until_zero : List ℕ → List ℕ
until_zero [] = []
until_zero (c ∷ cs) = cond (eqb c 0) [] (c ∷ until_zero cs)

-- the name at an offset of a string section
unfoldable pub name_in : List ℕ → ℕ → List ℕ
name_in strings off = until_zero (drop off strings)

-- the second question: "the blob would get any of reports 1 to 5, or the offset is not below the string length"
unfoldable pub nameless : List ℕ → ℕ → Bool
nameless b off = is_some (header_report b) || not (ltb off (str_len b))

-- "the part of the lent blob from that offset up to its first zero byte", empty where the second question says yes
unfoldable pub name_at : List ℕ → ℕ → List ℕ
name_at b off = cond (nameless b off) [] (name_in (strings_in b) off)

-- where that part begins in the blob; 0 where there is none
unfoldable pub name_start : List ℕ → ℕ → ℕ
name_start b off = cond (nameless b off) 0 (header_length + type_len b + off)

abbrev pub between : ℕ → ℕ → ℕ → Bool
between low high c = leb low c && leb c high

-- "ASCII letters, digits, underscores"
unfoldable pub is_digit : ℕ → Bool
is_digit c = between 48 57 c

unfoldable pub is_letter : ℕ → Bool
is_letter c = between 65 90 c || between 97 122 c || eqb c 95

-- "An identifier is 1 to 127 (house) ASCII letters, digits, underscores, no digit first": how many bytes it has, or that a name is none
abbrev pub identifier_length : List ℕ → Option ℕ
identifier_length [] = none
identifier_length (c ∷ cs) =
    cond (is_letter c && every (λ (d : ℕ). is_letter d || is_digit d) cs && leb (length (c ∷ cs)) 127)
    (some (length (c ∷ cs))) none

abbrev pub is_identifier : List ℕ → Bool
is_identifier cs = is_some (identifier_length cs)

-- "DATASEC: 1 to 127 bytes of 33 to 126 (house)"
unfoldable pub is_section_name : List ℕ → Bool
is_section_name cs = between 1 127 (length cs) && every (between 33 126) cs
