-- Joining changes no value: what each member says of every record is what it said before the join, at its type's new number.
-- Assumes nothing.
use Prim.Native.Nat.{ℕ, ◌≤◌}
use mathlib.Core.Path.{◌≡◌, ap, ◌∙◌}
use mathlib.Core.List.{List}
use mathlib.Core.Option.{none}
use native.Mathlib.Omega.{arith}
use Rattle.paper.proofs.Demands.{first-accepted, second-accepted, join-table}
use Rattle.paper.proofs.Questions.{raise-inside}
use Rattle.paper.proofs.gates.Acceptance.{accepted-good}
use Rattle.paper.proofs.joins.Joining.{count-join, first-renaming, second-renaming}
use Rattle.values.proofs.Values.{read-rename}
use Rattle.paper.specs.rules.Join.{joined_bytes, join_refusal}
use Rattle.paper.specs.rules.Rename.{raise}
use Rattle.paper.specs.rules.Table.{Table, count}
use Rattle.values.specs.Value.{read_member}
use Rattle.paper.specs.rules.Walk.{table_of}
use Rattle.paper.specs.terms.Fit.{Bytes}
use Rattle.paper.specs.terms.Good.{Good}

module _ (a b : List ℕ) (bytes-a : Bytes a) (bytes-b : Bytes b) (places work room : ℕ) (made : join_refusal a b places work room ≡ none) where
  good-a : Good (table_of a)
  good-a = accepted-good a places work (first-accepted a b bytes-a bytes-b places work room made)

  good-b : Good (table_of b)
  good-b = accepted-good b places work (second-accepted a b bytes-a bytes-b places work room made)

  -- a member of a type of the first
  pub join-read-first : (t m : ℕ) (s : List ℕ) → t ≤ count (table_of a) → read_member (table_of (joined_bytes a b)) t m s ≡ read_member (table_of a) t m s
  join-read-first t m s h =
      let n = count-join (table_of a) (table_of b) in
      ap (λ (T : Table). read_member T t m s) (join-table a b bytes-a bytes-b places work room made)
      ∙ read-rename (first-renaming (table_of a) (table_of b) good-a.closed good-b.closed) good-a t m s h (omega arith)

  -- a member of a type of the second, at its raised number
  pub join-read-second : (t m : ℕ) (s : List ℕ) → t ≤ count (table_of b)
      → read_member (table_of (joined_bytes a b)) (raise (count (table_of a)) t) m s ≡ read_member (table_of b) t m s
  join-read-second t m s h =
      let n = count-join (table_of a) (table_of b) in
      let inside = raise-inside (count (table_of a)) t h in
      ap (λ (T : Table). read_member T (raise (count (table_of a)) t) m s) (join-table a b bytes-a bytes-b places work room made)
      ∙ read-rename (second-renaming (table_of a) (table_of b) good-a.closed good-b.closed) good-b t m s h (omega arith)
