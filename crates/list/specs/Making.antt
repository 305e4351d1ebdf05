-- What making a list's table asks of its parts and leaves, in the paper's terms.
use Rattle.std.specs.Prelude.{ℕ, ◌≤◌, ◌≡◌, List, [], ◌∷◌, ◌++◌, length, drop}
use Rattle.lists.specs.List.{Listed, unread, table, body_fields, read_list}
use Rattle.paper.specs.declared.Order.{Order}
use Rattle.paper.specs.rules.Header.{header_length, opening}
use Rattle.paper.specs.rules.Limits.{byte_limit}
use Rattle.paper.specs.rules.Table.{Table}
use Rattle.paper.specs.rules.Walk.{blob_length, bytes_of, type_len_of}
use Rattle.paper.specs.rules.Word.{bytes_of_words}
use Rattle.paper.specs.terms.Fit.{Bytes}
use Rattle.paper.specs.terms.Put.{put}

-- a body that stands in its fields at a place of some bytes is put at a place of others, whatever its tag and what follows it
pub record BodyPut (s : List ℕ) (at len : ℕ) (before : List ℕ) (to : ℕ) (after : List ℕ) : Type 0 where
  pub puts : (tag : ℕ) (body rest : List ℕ) → drop at s ≡ body_fields tag body ++ rest → length body ≡ len → after ≡ put before to body

-- the header of a blob with sections of so many bytes
abbrev pub front_of : Order → ℕ → ℕ → List ℕ
front_of order types strings = opening order ++ bytes_of_words order (header_length ∷ 0 ∷ types ∷ types ∷ strings ∷ [])

-- the blob of the table that a list is read as
abbrev pub blob_in : Listed → List ℕ
blob_in (unread n) = []
blob_in (table order T) = bytes_of order T

-- a list that is read as a table of these lengths, whose blob an output of `room` bytes just holds
pub record MakeAsk (s : List ℕ) (order : Order) (types strings room : ℕ) : Type 0 where
  pub made : Table
  pub reads : read_list s ≡ table order made
  pub bytes : Bytes s
  pub types_long : types ≡ type_len_of made.records
  pub strings-long : strings ≡ length made.strings
  pub room_is : room ≡ blob_length made
  pub short : blob_length made ≤ byte_limit
