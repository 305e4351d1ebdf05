-- What the laws ask of bytes and tables: bytes that are bytes, and tables that some blob can hold.
use Rattle.std.specs.Prelude.{ℕ, ◌<◌, ◌≤◌, ◌≡◌, true, List, [], ◌∷◌, length}
use Rattle.std.proofs.Math.Option.{none}
use Rattle.paper.specs.rules.Gate.{refusal}
use Rattle.paper.specs.rules.Limits.{type_limit, full_places}
use Rattle.paper.specs.rules.Table.{Record, Table, count, kind_of, tail_length}
use Rattle.paper.specs.rules.Walk.{known, flat, type_len_of}

-- every number of a list is below a bound
abbrev pub Below : ℕ → List ℕ → Type 0
Below n [] = Unit {0}
Below n (x ∷ xs) = (x < n) × Below n xs

abbrev pub word_bound : ℕ
word_bound = 4294967296

abbrev pub Bytes : List ℕ → Type 0
Bytes b = Below 256 b

-- a record of a known kind with the tail that its info word asks for
pub record Whole (r : Record) : Type 0 where
  pub known_kind : known (kind_of r) ≡ true
  pub whole_tail : length r.tail ≡ tail_length r.info

abbrev pub EveryWhole : List Record → Type 0
EveryWhole [] = Unit {0}
EveryWhole (r ∷ rs) = Whole r × EveryWhole rs

-- a table whose words and bytes fit a blob
pub record Fits (T : Table) : Type 0 where
  pub whole : EveryWhole T.records
  pub words-fit : Below word_bound (flat T.records)
  pub bytes_fit : Bytes T.strings
  pub section_fits : type_len_of T.records < word_bound
  pub strings-fit : length T.strings < word_bound
  pub types_fit : count T ≤ type_limit

-- accepted with slices of full size
abbrev pub Accepted : List ℕ → Type 0
Accepted b = refusal b full_places full_places ≡ none
