-- What 60 is said to be about: "two accepted tables with that first count and length" that "join to" a blob.
use Rattle.std.specs.Prelude.{ℕ, ◌≡◌, List, length}
use Rattle.paper.specs.rules.Join.{joined_bytes}
use Rattle.paper.specs.rules.Limits.{byte_limit, full_places}
use Rattle.paper.specs.rules.Table.{count}
use Rattle.paper.specs.rules.Walk.{table_of}
use Rattle.paper.specs.terms.Fit.{Bytes}
use Rattle.paper.specs.terms.Good.{Joinable}

-- two blobs, the first of n types and s bytes of strings, that are joined to b where slices of full size are lent
pub record JoinsTo (b : List ℕ) (n s : ℕ) (x y : List ℕ) : Type 0 where
  pub first_bytes : Bytes x
  pub second_bytes : Bytes y
  pub joinable : Joinable x y full_places full_places byte_limit
  pub first_count : count (table_of x) ≡ n
  pub first_length : length (table_of x).strings ≡ s
  pub joined : joined_bytes x y ≡ b
