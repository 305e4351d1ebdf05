-- What phases 1 and 2 have shown, and what they have left in the index, when the later phases look at the types.
use Rattle.std.specs.Prelude.{ℕ, suc, ◌<◌, ◌≡◌, List, length, get_or}
use Rattle.paper.specs.terms.Fit.{Bytes}
use Rattle.paper.specs.terms.Good.{Readable}
use Rattle.paper.specs.rules.Table.{count}
use Rattle.paper.specs.rules.Walk.{table_of, places_of}

-- a blob of n types, and an index that has their places
pub record Standing (b index : List ℕ) (n : ℕ) : Type 0 where
  pub bytes : Bytes b
  pub readable : Readable b (length index) (suc n)
  pub counted : n ≡ count (table_of b)
  pub placed : (t : ℕ) → t < n → get_or index (suc t) 0 ≡ get_or (places_of (table_of b)) t 0
