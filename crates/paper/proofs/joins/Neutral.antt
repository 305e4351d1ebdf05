-- Demand 3: joining with the empty table, on either side, gives the other table back byte for byte.
-- Assumes nothing.
use Prim.Native.Nat.{ℕ, zero, suc}
use mathlib.Core.Path.{◌≡◌, refl, sym, ap, ap₂, ◌∙◌}
use mathlib.Core.Bool.{Bool, cond}
use mathlib.Core.List.{List, [], ◌∷◌, map, append-nil}
use mathlib.Core.Option.{Option, none, some}
use native.Mathlib.Nat.{add-zero}
use native.Mathlib.Omega.{arith}
use borrow.Author.Tests.{le-leb}
use lib.ListN.{length, drop}
use Rattle.paper.proofs.gates.Acceptance.{accepted-fits, accepted-bytes, accepted-short, accepted-closed}
use Rattle.paper.proofs.basics.Choices.{and-true}
use Rattle.paper.proofs.joins.FullJoins.{joined-accepted}
use Rattle.paper.proofs.renaming.Rename.{rename-id}
use Rattle.paper.proofs.bytes.Tables.{order-bytes_of}
use Rattle.paper.specs.terms.Computes.{computes}
use Rattle.paper.specs.terms.Fit.{Bytes, Accepted}
use Rattle.paper.specs.terms.Full.{join_full, empty_table, empty_blob, within_limits}
use Rattle.paper.specs.terms.Good.{Closed}
use Rattle.paper.specs.rules.Header.{order_of}
use Rattle.paper.specs.rules.Join.{join_tables, joined_bytes}
use Rattle.paper.specs.rules.Limits.{type_limit, byte_limit, full_places}
use Rattle.paper.specs.rules.Rename.{rename, raise}
use Rattle.paper.specs.rules.Table.{Record, Table, count}
use Rattle.paper.specs.rules.Walk.{table_of, blob_length, bytes_of}
use Rattle.paper.specs.declared.Order.{Order}
use Rattle.paper.specs.declared.Order.TheVariants.{LowFirst, HighFirst}

-- ── tables ──

raise-none : (w : ℕ) → raise 0 w ≡ w
raise-none zero = refl
raise-none (suc w) = add-zero (suc w)

pub map_same : (f : Record → Record) → ((r : Record) → f r ≡ r) → (rs : List Record) → map f rs ≡ rs
map_same f h [] = refl
map_same f h (r ∷ rs) = ap₂ {C = List Record} ◌∷◌ (h r) (map_same f h rs)

-- a record that is raised by nothing
pub raised-none : (r : Record) → rename (raise 0) (raise 0) r ≡ r
raised-none r = (λ i. rename (λ n. raise-none n i) (λ n. raise-none n i) r) ∙ rename-id r

pub opened : (s : List ℕ) → Closed s → 0 ∷ drop 1 s ≡ s
opened [] c = let f = c.filled in absurd (omega arith)
opened (x ∷ s) c = ap {B = List ℕ} (λ y. y ∷ s) (sym c.first)

pub join_tables-empty-left : (B : Table) → Closed B.strings → join_tables empty_table B ≡ B
unfolding join_tables
join_tables-empty-left B c =
    λ i. record {
      records = map_same (rename (raise 0) (raise 0)) raised-none B.records i;
      strings = opened B.strings c i;
    }

pub join_tables-empty-right : (A : Table) → join_tables A empty_table ≡ A
unfolding join_tables
join_tables-empty-right A = λ i. record { records = append-nil A.records i; strings = append-nil A.strings i }

-- ── blobs ──

pub empty-accepted : (order : Order) → Accepted (empty_blob order)
unfolding computes empty_blob
empty-accepted LowFirst = refl
empty-accepted HighFirst = refl

empty-table : (order : Order) → table_of (empty_blob order) ≡ empty_table
unfolding computes empty_blob
empty-table LowFirst = refl
empty-table HighFirst = refl

-- its words are in its order
empty-order : (order : Order) → order_of (empty_blob order) ≡ order
unfolding empty_blob
empty-order order = order-bytes_of order empty_table

module _ (out : List ℕ) (full : length out ≡ byte_limit) (b : List ℕ) (bytes : Bytes b) (p : Accepted b) where
  -- the empty table's blob in the order of the other
  abbrev empty : List ℕ
  empty = empty_blob (order_of b)

  -- an accepted table is within the limits, and its bytes are the blob's
  handed-back : (order : Order) (T : Table) → order ≡ order_of b → T ≡ table_of b → cond (within_limits T) (some (bytes_of order T)) none ≡ some b
  handed-back order T o e =
      ap₂ (λ (o : Order) (U : Table). cond (within_limits U) (some (bytes_of o U)) none) o e
      ∙ ap (λ (t : Bool). cond t (some (bytes_of (order_of b) (table_of b))) none)
      (and-true (le-leb (count (table_of b)) type_limit (accepted-fits b full_places full_places p bytes).types_fit)
      (le-leb (blob_length (table_of b)) byte_limit (accepted-short b full_places full_places p bytes)))
      ∙ ap {B = Option (List ℕ)} some (accepted-bytes b full_places full_places p bytes)

  pub join-empty-left : join_full out empty b ≡ some b
  unfolding joined_bytes
  join-empty-left =
      joined-accepted out empty b full (empty-accepted (order_of b)) p (empty-order (order_of b))
      ∙ handed-back (order_of empty) (join_tables (table_of empty) (table_of b)) (empty-order (order_of b))
      (ap (λ (E : Table). join_tables E (table_of b)) (empty-table (order_of b)) ∙ join_tables-empty-left (table_of b) (accepted-closed b full_places full_places p))

  pub join-empty-right : join_full out b empty ≡ some b
  unfolding joined_bytes
  join-empty-right =
      joined-accepted out b empty full p (empty-accepted (order_of b)) (sym (empty-order (order_of b)))
      ∙ handed-back (order_of b) (join_tables (table_of b) (table_of empty)) refl
      (ap (join_tables (table_of b)) (empty-table (order_of b)) ∙ join_tables-empty-right (table_of b))
