-- Joins with slices of full size, which grouping and neutrality speak of: the bytes handed back, or nothing where a join refuses.
use Rattle.std.specs.Prelude.{ℕ, Bool, cond, ◌&&◌, List, [], ◌∷◌, eqb, leb, take}
use Rattle.std.proofs.Math.Option.{Option, none, some}
use Rattle.paper.specs.rules.Join.{JoinOutcome, join}
use Rattle.paper.specs.rules.Limits.{type_limit, byte_limit, full_places}
use Rattle.paper.specs.rules.Table.{Table, count}
use Rattle.paper.specs.rules.Walk.{blob_length, bytes_of}
use Rattle.paper.specs.declared.Order.{Order}

abbrev pub handed : JoinOutcome → Option (List ℕ)
handed j = cond (eqb j.answer.number 0) (some (take j.answer.p j.output)) none

-- a join into a lent output
unfoldable pub join_full : List ℕ → List ℕ → List ℕ → Option (List ℕ)
join_full out a b = handed (join a b full_places full_places out)

-- the next join, of what the one before handed back
abbrev pub and_then : Option (List ℕ) → (List ℕ → Option (List ℕ)) → Option (List ℕ)
and_then none next = none
and_then (some b) next = next b

-- the empty table, and its blob, which the benches call E
abbrev pub empty_table : Table
empty_table = record { records = []; strings = 0 ∷ [] }

unfoldable pub empty_blob : Order → List ℕ
empty_blob order = bytes_of order empty_table

-- a table that the limits allow
abbrev pub within_limits : Table → Bool
within_limits T = leb (count T) type_limit && leb (blob_length T) byte_limit
