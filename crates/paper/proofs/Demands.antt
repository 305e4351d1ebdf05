-- The demands of the paper as theorems, each said once for a reader: what is accepted, what ends, what a size is, what a join keeps.
-- Assumes nothing.
use Prim.Native.Nat.{ℕ, suc, ◌+◌, ◌-◌, ◌≤◌, ◌<◌}
use mathlib.Core.Path.{◌≡◌, sym, ap, ◌∙◌}
use mathlib.Core.List.{List}
use mathlib.Core.Logic.{◌⊎◌}
use mathlib.Core.Option.{none}
use native.Mathlib.Omega.{arith}
use lib.ListN.{length, get_or}
use Rattle.paper.proofs.gates.Acceptance.{accepted-fits, accepted-bytes, accepted-good, good-accepted}
use Rattle.paper.proofs.walks.Insides.{sound-refs, sound-ends, no-chain}
use Rattle.paper.proofs.joins.JoinRefusals.{join_refusal-joinable}
use Rattle.paper.proofs.joins.JoinFits.{good-join, fits-join}
use Rattle.paper.proofs.joins.Joining.{size-rename, count-join, first-record, second-record, first-renaming, second-renaming}
use Rattle.paper.proofs.gates.SizeAsked.{size_of-exact}
use Rattle.paper.proofs.bytes.Tables.{length-bytes_of, bytes-bytes_of, table_of-bytes_of}
use Rattle.paper.specs.rules.Chain.{held_by, pointed_by, Chain}
use Rattle.paper.specs.terms.Fit.{Bytes, Fits}
use Rattle.paper.specs.rules.Gate.{refusal}
use Rattle.paper.specs.terms.Good.{Joinable, Good}
use Rattle.paper.specs.rules.Header.{order_of}
use Rattle.paper.specs.rules.Join.{raised, join_tables, joined_bytes, join_refusal}
use Rattle.paper.specs.rules.Limits.{byte_limit}
use Rattle.paper.specs.rules.Name.{name_in}
use Rattle.paper.specs.rules.Rename.{raise}
use Rattle.paper.specs.rules.Size.{exact_size, answer_of, size_of}
use Rattle.paper.specs.rules.Table.{Table, count, record_at}
use Rattle.paper.specs.rules.Walk.{table_of, blob_length, places_of}

-- ── demand 2 ──

module _ (b : List ℕ) (bytes : Bytes b) (places work : ℕ) (accepted : refusal b places work ≡ none) where
  -- no chain of an accepted table, by value or of the second sort, can be followed for ever
  pub accepted-ends : (t : ℕ) → Chain (held_by (table_of b)) t ⊎ Chain (pointed_by (table_of b)) t → ⊥
  accepted-ends = let s = (accepted-good b places work accepted).sound in no-chain (table_of b) (sound-refs s) (sound-ends s)

  -- (and report 14 names a type from which one can: `report-14`)

  -- the size question, asked of the blob and of an index that has its places, cut to n + 1 places or longer, answers the exact size
  pub accepted-size : (index : List ℕ) → count (table_of b) < length index
      → ((t : ℕ) → t < count (table_of b) → get_or index (suc t) 0 ≡ get_or (places_of (table_of b)) t 0)
      → (t : ℕ) → t ≤ count (table_of b) → size_of b index t ≡ answer_of (exact_size (table_of b) t)
  accepted-size index long at t h =
      let s = (accepted-good b places work accepted).sound in
      ap (λ (s : List ℕ). size_of s index t) (sym (accepted-bytes b places work accepted bytes))
      ∙ size_of-exact (order_of b) (table_of b) (accepted-fits b places work accepted bytes) (sound-refs s) (sound-ends s) index long at t h

-- ── demand 3: whatever two blobs are joined, with whatever slices ──

module _ (a b : List ℕ) (bytes-a : Bytes a) (bytes-b : Bytes b) (places work room : ℕ) (made : join_refusal a b places work room ≡ none) where
  A : Table
  A = table_of a

  B : Table
  B = table_of b

  joinable : Joinable a b places work room
  joinable = join_refusal-joinable a b places work room made

  -- both tables are accepted
  pub first-accepted : refusal a places work ≡ none
  first-accepted = joinable.first

  pub second-accepted : refusal b places work ≡ none
  second-accepted = joinable.second

  short : blob_length (join_tables A B) ≤ byte_limit
  unfolding joined_bytes A B
  short = let whole = length-bytes_of (order_of a) (join_tables A B) in omega (arith, joinable.short)

  good-A : Good A
  unfolding A
  good-A = accepted-good a places work first-accepted

  good-B : Good B
  unfolding B
  good-B = accepted-good b places work second-accepted

  -- the joined table fits a blob
  pub join-fits : Fits (join_tables (table_of a) (table_of b))
  unfolding joined_bytes A B
  join-fits =
      let n = count-join A B in
      fits-join A B good-A good-B (accepted-fits a places work first-accepted bytes-a) (accepted-fits b places work second-accepted bytes-b)
      (omega (arith, joinable.few)) short

  -- the joined blob is bytes
  pub join-bytes : Bytes (joined_bytes a b)
  unfolding joined_bytes A B
  join-bytes = bytes-bytes_of (order_of a) (join_tables A B) join-fits

  -- it holds the joined table
  pub join-table : table_of (joined_bytes a b) ≡ join_tables (table_of a) (table_of b)
  unfolding joined_bytes A B
  join-table = table_of-bytes_of (order_of a) (join_tables A B) join-fits

  -- and has n1 + n2 types
  pub join-count : count (table_of (joined_bytes a b)) ≡ count (table_of a) + count (table_of b)
  join-count = ap count join-table ∙ count-join (table_of a) (table_of b)

  -- it is accepted, whatever places are lent beyond one for each type
  pub join-accepted : (places' work' : ℕ) → count (table_of a) + count (table_of b) < places'
      → count (table_of a) + count (table_of b) < work' → refusal (joined_bytes a b) places' work' ≡ none
  unfolding joined_bytes A B
  join-accepted places' work' p w =
      let n = count-join A B in
      good-accepted (order_of a) (join_tables A B) (good-join A B good-A good-B) join-fits short places' work' (omega arith) (omega arith)

  -- the first's records stand unchanged at their numbers
  pub join_first : (t : ℕ) → t ≤ count (table_of a) → record_at (table_of (joined_bytes a b)) t ≡ record_at (table_of a) t
  join_first t h = ap (λ (T : Table). record_at T t) join-table ∙ first-record (table_of a) (table_of b) t h

  -- the second's stand at theirs, raised
  pub join-second : (t : ℕ) → record_at (table_of (joined_bytes a b)) (raise (count (table_of a)) t) ≡ raised (table_of a) (record_at (table_of b) t)
  join-second t = ap (λ (T : Table). record_at T (raise (count (table_of a)) t)) join-table ∙ second-record (table_of a) (table_of b) t

  -- every name is what it was
  pub join-name-first : (n : ℕ) → n < length (table_of a).strings → name_in (table_of (joined_bytes a b)).strings n ≡ name_in (table_of a).strings n
  unfolding A B
  join-name-first n h = ap (λ (T : Table). name_in T.strings n) join-table ∙ (first-renaming A B good-A.closed good-B.closed).same_name n h

  pub join-name-second : (n : ℕ) → n < length (table_of b).strings
      → name_in (table_of (joined_bytes a b)).strings (raise (length (table_of a).strings - 1) n) ≡ name_in (table_of b).strings n
  unfolding A B
  join-name-second n h =
      ap (λ (T : Table). name_in T.strings (raise (length A.strings - 1) n)) join-table
      ∙ (second-renaming A B good-A.closed good-B.closed).same_name n h

  -- every exact size, and its lack, is what it was
  pub join-size-first : (t : ℕ) → t ≤ count (table_of a) → exact_size (table_of (joined_bytes a b)) t ≡ exact_size (table_of a) t
  unfolding A B
  join-size-first t h = ap (λ (T : Table). exact_size T t) join-table ∙ size-rename (first-renaming A B good-A.closed good-B.closed) good-A t h

  pub join-size-second : (t : ℕ) → t ≤ count (table_of b)
      → exact_size (table_of (joined_bytes a b)) (raise (count (table_of a)) t) ≡ exact_size (table_of b) t
  unfolding A B
  join-size-second t h =
      ap (λ (T : Table). exact_size T (raise (count A) t)) join-table ∙ size-rename (second-renaming A B good-A.closed good-B.closed) good-B t h
