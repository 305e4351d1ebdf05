-- What the join asks of its parts, answers and leaves, in the paper's terms.
use Rattle.paper.specs.declared.JoinError.TheVariants.{FirstRefused, OrdersDiffer, OutputShort, SecondRefused, TooLong, TooMany}
use Rattle.paper.specs.declared.JoinError.{JoinError}
use Rattle.std.specs.Prelude.{ℕ, ◌≤◌, ◌≡◌, List, length, take, Err, Ok, Result}
use Rattle.std.proofs.Math.Option.{Option, none, some}
use Rattle.paper.specs.rules.Answer.{joined_as_paper}
use Rattle.paper.specs.terms.Fit.{Bytes}
use Rattle.paper.specs.rules.Gate.{refusal}
use Rattle.paper.specs.rules.Header.{order_of}
use Rattle.paper.specs.rules.Join.{joined_bytes, limit_report, JoinOutcome, join_outcome, join}
use Rattle.paper.specs.rules.Limits.{byte_limit}
use Rattle.paper.specs.rules.Table.{count}
use Rattle.paper.specs.rules.Walk.{table_of}

-- two blobs of n and m types, both accepted with some places lent
pub record BothAccepted (a b : List ℕ) (n m : ℕ) : Type 0 where
  pub places : ℕ
  pub work : ℕ
  pub first : refusal a places work ≡ none
  pub second : refusal b places work ≡ none
  pub first_bytes : Bytes a
  pub second_bytes : Bytes b
  pub first_count : n ≡ count (table_of a)
  pub second_count : m ≡ count (table_of b)

-- of one order, and an output of just the joined length, which is within the limit
pub record WriteAsk (a b : List ℕ) (n m room : ℕ) : Type 0 where
  pub both : BothAccepted a b n m
  pub one-order : order_of a ≡ order_of b
  pub fits : room ≡ length (joined_bytes a b)
  pub short : length (joined_bytes a b) ≤ byte_limit

-- what the limits leave of a join of accepted tables into an output of these bytes
unfoldable pub limited : List ℕ → List ℕ → List ℕ → JoinOutcome
limited a b out = join_outcome (joined_bytes a b) 0 0 out (limit_report a b (length out))

pub record LimitedOf (r : Result ℕ JoinError) (a b out output : List ℕ) : Type 0 where
  pub answers : joined_as_paper r ≡ (limited a b out).answer
  pub outputs : output ≡ (limited a b out).output

-- the answer and all three slices afterwards are those of the paper's join, into an output of these bytes
pub record JoinOf (r : Result ℕ JoinError) (a b : List ℕ) (places work_places : ℕ) (out index work output : List ℕ) : Type 0 where
  pub answers : joined_as_paper r ≡ (join a b places work_places out).answer
  pub indexes : index ≡ (join a b places work_places out).index
  pub works : work ≡ (join a b places work_places out).work
  pub outputs : output ≡ (join a b places work_places out).output

-- the bytes that a join hands back in its output, nothing where it refuses
abbrev pub handed_back : Result ℕ JoinError → List ℕ → Option (List ℕ)
handed_back (Ok n) output = some (take n output)
handed_back (Err (FirstRefused r)) output = none
handed_back (Err (SecondRefused r)) output = none
handed_back (Err OrdersDiffer) output = none
handed_back (Err TooMany) output = none
handed_back (Err TooLong) output = none
handed_back (Err OutputShort) output = none
