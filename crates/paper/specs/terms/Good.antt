-- What is true of a blob and a table of which the gate says nothing. The demands' theorems speak of these.
use Rattle.std.specs.Prelude.{ℕ, ◌+◌, ◌-◌, ◌%◌, ◌≤◌, ◌<◌, ◌≡◌, true, false, List, length, get_or, take}
use Rattle.std.proofs.Math.Option.{none}
use Rattle.paper.specs.rules.Chain.{endless}
use Rattle.paper.specs.terms.Fit.{EveryWhole}
use Rattle.paper.specs.rules.Gate.{refusal}
use Rattle.paper.specs.rules.Header.{header_length, opening, order_of, type_off, type_len, str_off, str_len, strings_in}
use Rattle.paper.specs.rules.Heads.{head_ok}
use Rattle.paper.specs.rules.Join.{joined_bytes}
use Rattle.paper.specs.rules.Layout.{layout_ok}
use Rattle.paper.specs.rules.Limits.{byte_limit, type_limit}
use Rattle.paper.specs.rules.Names.{names_ok}
use Rattle.paper.specs.rules.References.{refs_ok}
use Rattle.paper.specs.rules.Table.{Record, Table, count, record_at}
use Rattle.paper.specs.rules.Tails.{tail_ok}
use Rattle.paper.specs.rules.Walk.{type_words, table_of, flat}
use Rattle.paper.specs.rules.Word.{word_at}

-- reports 1 to 4: a header, and sections that stand behind it and fill the blob
pub record SectionFacts (b : List ℕ) : Type 0 where
  pub long : header_length ≤ length b
  pub opens : take 4 b ≡ opening (order_of b)
  pub header_length_is : word_at (order_of b) b 4 ≡ header_length
  pub type_off_is : type_off b ≡ 0
  pub type_len_is : type_len b % 4 ≡ 0
  pub str_off_is : str_off b ≡ type_len b
  pub sum : header_length + type_len b + str_len b ≡ length b

-- phase 1: what a header and the sections behind it are
pub record HeaderFacts (b : List ℕ) : Type 0 where
  pub long : header_length ≤ length b
  pub short : length b ≤ byte_limit
  pub opens : take 4 b ≡ opening (order_of b)
  pub header_length_is : word_at (order_of b) b 4 ≡ header_length
  pub type_off_is : type_off b ≡ 0
  pub type_len_is : type_len b % 4 ≡ 0
  pub str_off_is : str_off b ≡ type_len b
  pub sum : header_length + type_len b + str_len b ≡ length b
  pub some_strings : 1 ≤ str_len b
  pub first_zero : get_or (strings_in b) 0 0 ≡ 0
  pub last_zero : get_or (strings_in b) (str_len b - 1) 0 ≡ 0

-- phase 2: some words are those of some whole records, of which there are no more than there is room for
pub record WholeWalk (room : ℕ) (ws : List ℕ) (rs : List Record) : Type 0 where
  pub flat_found : flat rs ≡ ws
  pub whole_found : EveryWhole rs
  pub few_found : length rs ≤ room

-- phases 1 and 2, and places enough
pub record Readable (b : List ℕ) (places work : ℕ) : Type 0 where
  pub header : HeaderFacts b
  pub section : WholeWalk type_limit (type_words b) (table_of b).records
  pub enough_places : count (table_of b) < places
  pub enough_work : count (table_of b) < work

-- a string section as report 5 asks for it
pub record Closed (s : List ℕ) : Type 0 where
  pub filled : 1 ≤ length s
  pub first : get_or s 0 0 ≡ 0
  pub last : get_or s (length s - 1) 0 ≡ 0

-- phases 3 to 6: every rule holds at a type
pub record SoundAt (T : Table) (t : ℕ) : Type 0 where
  pub heads : head_ok (record_at T t) ≡ true
  pub names : names_ok T.strings (record_at T t) ≡ true
  pub tails : tail_ok (record_at T t) ≡ true
  pub refs : refs_ok T (record_at T t) ≡ true
  pub ends : endless T t ≡ false
  pub layouts : layout_ok T (record_at T t) ≡ true

-- and at every type
abbrev pub Sound : Table → Type 0
Sound T = (t : ℕ) → 1 ≤ t → t ≤ count T → SoundAt T t

-- "A table is accepted exactly when it meets paper 01": all of it, of a blob and the places lent
pub record Meets (b : List ℕ) (places work : ℕ) : Type 0 where
  pub readable : Readable b places work
  pub sound : Sound (table_of b)

-- "Two accepted tables" of one order "are joined unless limits or lent slices forbid": of two blobs, the places lent and the room for the output
pub record Joinable (a b : List ℕ) (places work room : ℕ) : Type 0 where
  pub first : refusal a places work ≡ none
  pub second : refusal b places work ≡ none
  pub one-order : order_of a ≡ order_of b
  pub few : count (table_of a) + count (table_of b) ≤ type_limit
  pub short : length (joined_bytes a b) ≤ byte_limit
  pub fits : length (joined_bytes a b) ≤ room

-- a table of which nothing is said, with whole records and closed strings
pub record Good (T : Table) : Type 0 where
  pub sound : Sound T
  pub closed : Closed T.strings
  pub whole : EveryWhole T.records
