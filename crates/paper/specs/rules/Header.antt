-- Phase 1, reports 1 to 5: the header's numbers and the string section, of any bytes.
use Rattle.std.specs.Prelude.{ℕ, ◌+◌, ◌-◌, ◌%◌, Bool, not, cond, ◌||◌, List, [], ◌∷◌, ltb, eqb, length, get_or, take, drop}
use Rattle.std.proofs.Math.Option.{Option}
use Rattle.paper.specs.rules.Choice.{differ, same, Rule, ◌when◌, first_due}
use Rattle.paper.specs.rules.Limits.{byte_limit}
use Rattle.paper.specs.rules.Word.{word_at}
use Rattle.paper.specs.declared.Order.{Order}
use Rattle.paper.specs.declared.Order.TheVariants.{LowFirst, HighFirst}

abbrev pub header_length : ℕ
header_length = 24

-- the two bytes of the magic: 9F EB, or EB 9F "all words in that order" (order 4)
abbrev pub magic_first : Order → ℕ
magic_first LowFirst = 0x9f
magic_first HighFirst = 0xeb

abbrev pub magic_second : Order → ℕ
magic_second LowFirst = 0xeb
magic_second HighFirst = 0x9f

abbrev pub magic : Order → List ℕ
magic order = magic_first order ∷ magic_second order ∷ []

-- magic, version 1, flags 0: "the two bytes after the magic stay 01 00"
abbrev pub opening : Order → List ℕ
opening order = magic_first order ∷ magic_second order ∷ 1 ∷ 0 ∷ []

-- the byte order of a blob's words, whatever the blob is: "big-endian words if the blob begins EB 9F, else little-endian"
unfoldable pub order_of : List ℕ → Order
order_of b = cond (same (take 2 b) (magic HighFirst)) HighFirst LowFirst

module _ (b : List ℕ) where
  unfoldable pub type_off : ℕ
  type_off = word_at (order_of b) b 8

  unfoldable pub type_len : ℕ
  type_len = word_at (order_of b) b 12

  unfoldable pub str_off : ℕ
  str_off = word_at (order_of b) b 16

  unfoldable pub str_len : ℕ
  str_len = word_at (order_of b) b 20

  unfoldable pub strings_in : List ℕ
  strings_in = drop (header_length + type_len) b

  -- 1: "under 24 bytes or over" the limit
  unfoldable pub length_bad : Bool
  length_bad = ltb (length b) header_length || ltb byte_limit (length b)

  -- 2: "first four bytes are not 9F EB 01 00"; "Report 2 now means neither order"
  unfoldable pub opening_bad : Bool
  opening_bad = not (same (take 4 b) (opening (order_of b)))

  -- 3: "header length is not 24"
  unfoldable pub header_length_bad : Bool
  header_length_bad = differ (word_at (order_of b) b 4) header_length

  -- 4: "type_off not 0, type_len not a multiple of 4, str_off not type_len, or 24 + type_len + str_len (exact sum) not the blob's length"
  unfoldable pub sections_bad : Bool
  sections_bad =
      differ type_off 0
      || differ (type_len % 4) 0
      || differ str_off type_len
      || differ (header_length + type_len + str_len) (length b)

  -- 5: "string section empty, or its first or last byte not zero"
  unfoldable pub strings_bad : Bool
  strings_bad = eqb str_len 0 || differ (get_or strings_in 0 0) 0 || differ (get_or strings_in (str_len - 1) 0) 0

  -- the rules of phase 1, smallest number first
  abbrev pub header_rules : List Rule
  header_rules =
      1 when length_bad
      ∷ 2 when opening_bad
      ∷ 3 when header_length_bad
      ∷ 4 when sections_bad
      ∷ 5 when strings_bad
      ∷ []

  -- "in phase 1 the smallest number"
  unfoldable pub header_report : Option ℕ
  header_report = first_due header_rules
