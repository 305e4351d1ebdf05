-- The rows of the kinds as numbers: what each column of the code's table says.
use Rattle.std.specs.Prelude.{ℕ, ◌+◌, ◌-◌, ◌*◌, ◌%◌, Bool, cond, ◌&&◌, List, [], ◌∷◌, leb, length, get_or}
use Rattle.paper.specs.rules.Choice.{same}
use Rattle.paper.specs.rules.Kind.{NameRule, offset0, any_name, offset0_or_identifier, identifier, non_empty, section_name}
use Rattle.paper.specs.rules.Kind.{RefRule, void_or_plain, plain, an_int, a_proto, a_var, taggable, Role, names, refers, holds, number}
use Rattle.paper.specs.rules.Kind.{Values, free, one_of, SizeRule, eight, size_word, count_times, referent, no_size, Row}

-- ── roles: 0 a plain number, 1 to 6 a name, 7 to 12 a reference, 13 to 18 a by-value reference ──

abbrev pub name_code : NameRule → ℕ
name_code offset0 = 1
name_code any_name = 2
name_code offset0_or_identifier = 3
name_code identifier = 4
name_code non_empty = 5
name_code section_name = 6

abbrev pub ref_code : RefRule → ℕ
ref_code void_or_plain = 7
ref_code plain = 8
ref_code an_int = 9
ref_code a_proto = 10
ref_code a_var = 11
ref_code taggable = 12

abbrev pub role_code : Role → ℕ
role_code number = 0
role_code (names rule) = name_code rule
role_code (refers rule) = ref_code rule
role_code (holds rule) = ref_code rule + 6

-- the role of a code, a plain number where it is none
abbrev pub role_of : ℕ → Role
role_of code =
    get_or
    (number
    ∷ names offset0 ∷ names any_name ∷ names offset0_or_identifier ∷ names identifier ∷ names non_empty ∷ names section_name
    ∷ refers void_or_plain ∷ refers plain ∷ refers an_int ∷ refers a_proto ∷ refers a_var ∷ refers taggable
    ∷ holds void_or_plain ∷ holds plain ∷ holds an_int ∷ holds a_proto ∷ holds a_var ∷ holds taggable
    ∷ [])
    code
    number

-- the role of a word by its place among others: what is outside is a plain number
abbrev pub role_at : List Role → ℕ → ℕ
role_at ρs i = role_code (get_or ρs i number)

-- which codes are those of a name, of a reference, and of one by value
abbrev pub between : ℕ → ℕ → ℕ → Bool
between low high code = leb low code && leb code high

abbrev pub is_name_code : ℕ → Bool
is_name_code code = between 1 6 code

abbrev pub is_ref_code : ℕ → Bool
is_ref_code code = between 7 18 code

abbrev pub is_held_code : ℕ → Bool
is_held_code code = between 13 18 code

-- the number of a reference's rule, from 0 on, by value or not
abbrev pub rule_code : ℕ → ℕ
rule_code code = (code - 7) % 6

-- ── where a size comes from ──

abbrev pub size_code : SizeRule → ℕ
size_code no_size = 0
size_code eight = 1
size_code size_word = 2
size_code count_times = 3
size_code referent = 4

abbrev pub size_rule_of : ℕ → SizeRule
size_rule_of code = get_or (no_size ∷ eight ∷ size_word ∷ count_times ∷ referent ∷ []) code no_size

-- ── which numbers a part of a head may be ──

-- the numbers of each code: 0 only, FUNC's linkage, INT's sizes, ENUM's sizes, FLOAT's sizes, and any
abbrev pub values_of : ℕ → Values
values_of code =
    get_or
    (one_of (0 ∷ [])
    ∷ one_of (0 ∷ 1 ∷ [])
    ∷ one_of (1 ∷ 2 ∷ 4 ∷ 8 ∷ 16 ∷ [])
    ∷ one_of (1 ∷ 2 ∷ 4 ∷ 8 ∷ [])
    ∷ one_of (2 ∷ 4 ∷ 8 ∷ 12 ∷ 16 ∷ [])
    ∷ [])
    code
    free

abbrev pub values_code : Values → ℕ
values_code free = 5
values_code (one_of ws) =
    cond (same ws (0 ∷ [])) 0
    (cond (same ws (0 ∷ 1 ∷ [])) 1
    (cond (same ws (1 ∷ 2 ∷ 4 ∷ 8 ∷ 16 ∷ [])) 2
    (cond (same ws (1 ∷ 2 ∷ 4 ∷ 8 ∷ [])) 3
    4)))

-- ── a row ──

-- columns as one number, a byte each, the first the highest
abbrev pub packed : ℕ → List ℕ → ℕ
packed n [] = n
packed n (c ∷ cs) = packed (n * 256 + c) cs

-- a role of a by-value reference
abbrev pub is_held : Role → Bool
is_held ρ = is_held_code (role_code ρ)

-- the place in a record of its first by-value reference: the third word, the first that stands once, or the second of the first entry; 0 for none
abbrev pub held_place : Row → ℕ
held_place r =
    cond (is_held r.third_role) 8
    (cond (is_held (get_or r.once 0 number)) 12
    (cond (is_held (get_or r.each 1 number)) 16 0))

-- where the first by-value reference stands; what a head may hold: kind_flag, vlen, third word and its role, name, size
unfoldable pub head_code : Row → ℕ
head_code r =
    packed 0
    (held_place r
    ∷ values_code r.flag
    ∷ values_code r.vlen
    ∷ values_code r.third_values
    ∷ role_code r.third_role
    ∷ name_code r.name
    ∷ size_code r.size
    ∷ [])

-- the words of a tail: how many stand once and their roles, how many stand for each entry and theirs
unfoldable pub tail_code : Row → ℕ
tail_code r =
    packed 0
    (length r.once
    ∷ role_at r.once 0 ∷ role_at r.once 1 ∷ role_at r.once 2
    ∷ length r.each
    ∷ role_at r.each 0 ∷ role_at r.each 1 ∷ role_at r.each 2
    ∷ [])
