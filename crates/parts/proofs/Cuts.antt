-- Order 14 of blobs: where a cut goes through, the two parts are accepted and join to the blob; and whatever two accepted tables join to
-- it, with that first count and length, are the parts. So the pair is the only one.
-- Assumes nothing.
use Prim.Native.Nat.{ℕ, ◌+◌, ◌≤◌, ◌<◌}
use mathlib.Core.Path.{◌≡◌, sym, ap, ap₂, ◌∙◌, subst}
use mathlib.Core.Bool.{true}
use mathlib.Core.List.{List}
use mathlib.Core.Option.{none}
use native.Mathlib.Omega.{arith}
use lib.ListN.{length}
use Rattle.parts.proofs.Cutting.{CutFacts, cut_ok-facts, facts-cut_ok, count-first, length-first, count-second, join-parts, good-first, good-second}
use Rattle.parts.proofs.Rejoining.{first-join, second-join, cut-join, short-first, short-second, fits-first, fits-second}
use Rattle.parts.specs.Cut.{cut_ok, first_part, second_part, first_bytes, second_bytes}
use Rattle.parts.specs.Pair.{JoinsTo}
use Rattle.paper.proofs.Demands.{join-table, join-bytes, join-accepted}
use Rattle.paper.proofs.bytes.Tables.{bytes-bytes_of, length-bytes_of, order-bytes_of, table_of-bytes_of}
use Rattle.paper.proofs.gates.Acceptance.{accepted-bytes, accepted-fits, accepted-good, accepted-short, good-accepted}
use Rattle.paper.proofs.joins.JoinRefusals.{joinable-join_refusal}
use Rattle.paper.specs.declared.Order.{Order}
use Rattle.paper.specs.rules.Gate.{refusal}
use Rattle.paper.specs.rules.Header.{order_of}
use Rattle.paper.specs.rules.Join.{join_tables, joined_bytes, join_refusal}
use Rattle.paper.specs.rules.Limits.{byte_limit, full_places}
use Rattle.paper.specs.rules.Table.{Table, count}
use Rattle.paper.specs.rules.Walk.{table_of, bytes_of, blob_length}
use Rattle.paper.specs.terms.Fit.{Bytes, Fits}
use Rattle.paper.specs.terms.Good.{Good}

-- ── a cut that goes through an accepted table ──

module _ (b : List ℕ) (bytes : Bytes b) (places work : ℕ) (accepted : refusal b places work ≡ none) (n s : ℕ) (ok : cut_ok n s (table_of b) ≡ true) where
  facts : CutFacts n s (table_of b)
  facts = cut_ok-facts n s (table_of b) ok

  good : Good (table_of b)
  good = accepted-good b places work accepted

  short : blob_length (table_of b) ≤ byte_limit
  short = accepted-short b places work accepted bytes

  first_fits : Fits (first_part n s (table_of b))
  first_fits = fits-first facts good (accepted-fits b places work accepted bytes) short

  second_fits : Fits (second_part n s (table_of b))
  second_fits = fits-second facts good (accepted-fits b places work accepted bytes) short

  pub first-table : table_of (first_bytes b n s) ≡ first_part n s (table_of b)
  unfolding first_bytes
  first-table = table_of-bytes_of (order_of b) (first_part n s (table_of b)) first_fits

  pub second-table : table_of (second_bytes b n s) ≡ second_part n s (table_of b)
  unfolding second_bytes
  second-table = table_of-bytes_of (order_of b) (second_part n s (table_of b)) second_fits

  -- both are accepted, whatever places are lent beyond one for each type
  pub first-accepted : (places' work' : ℕ) → n < places' → n < work' → refusal (first_bytes b n s) places' work' ≡ none
  unfolding first_bytes
  first-accepted places' work' p w =
      let k = count-first facts in
      good-accepted (order_of b) (first_part n s (table_of b)) (good-first facts good) first_fits (omega (arith, short-first facts good, short)) places' work'
      (omega arith) (omega arith)

  pub second-accepted : (places' work' : ℕ) → count (table_of b) < n + places' → count (table_of b) < n + work' → refusal (second_bytes b n s) places' work' ≡ none
  unfolding second_bytes
  second-accepted places' work' p w =
      let k = count-second facts in
      good-accepted (order_of b) (second_part n s (table_of b)) (good-second facts good) second_fits (omega (arith, short-second facts good, short)) places' work'
      (omega arith) (omega arith)

  first-order : order_of (first_bytes b n s) ≡ order_of b
  unfolding first_bytes
  first-order = order-bytes_of (order_of b) (first_part n s (table_of b))

  second-order : order_of (second_bytes b n s) ≡ order_of b
  unfolding second_bytes
  second-order = order-bytes_of (order_of b) (second_part n s (table_of b))

  -- taking apart and joining gives the blob back
  rejoined : joined_bytes (first_bytes b n s) (second_bytes b n s) ≡ b
  unfolding joined_bytes
  rejoined =
      ap (λ (o : Order). bytes_of o (join_tables (table_of (first_bytes b n s)) (table_of (second_bytes b n s)))) first-order
      ∙ ap₂ (λ (A B : Table). bytes_of (order_of b) (join_tables A B)) first-table second-table
      ∙ ap (bytes_of (order_of b)) (join-parts facts)
      ∙ accepted-bytes b places work accepted bytes

  long-b : length b ≤ byte_limit
  long-b = omega (arith, short, length-bytes_of (order_of b) (table_of b), ap length (accepted-bytes b places work accepted bytes))

  pub cut-joins : JoinsTo b n s (first_bytes b n s) (second_bytes b n s)
  unfolding first_bytes second_bytes
  cut-joins =
      let few = (accepted-fits b places work accepted bytes).types_fit in
      let one = ap count first-table ∙ count-first facts in
      let two = ap count second-table in
      let all = count-second facts in
      let long = ap length rejoined in
      let top = facts.few in
      record {
        first_bytes = bytes-bytes_of (order_of b) (first_part n s (table_of b)) first_fits;
        second_bytes = bytes-bytes_of (order_of b) (second_part n s (table_of b)) second_fits;
        joinable =
            record {
              first = first-accepted full_places full_places (omega arith) (omega arith);
              second = second-accepted full_places full_places (omega arith) (omega arith);
              one-order = first-order ∙ sym second-order;
              few = omega arith;
              short = omega (arith, long, long-b);
              fits = omega (arith, long, long-b);
            };
        first_count = one;
        first_length = ap (λ (T : Table). length T.strings) first-table ∙ length-first facts;
        joined = rejoined;
      }

-- ── two accepted tables that join to a blob ──

module _ {b : List ℕ} {n s : ℕ} {x y : List ℕ} (j : JoinsTo b n s x y) where
  made : join_refusal x y full_places full_places byte_limit ≡ none
  made = joinable-join_refusal x y full_places full_places byte_limit j.joinable

  good-x : Good (table_of x)
  good-x = accepted-good x full_places full_places j.joinable.first

  good-y : Good (table_of y)
  good-y = accepted-good y full_places full_places j.joinable.second

  table-joined : join_tables (table_of x) (table_of y) ≡ table_of b
  table-joined = sym (join-table x y j.first_bytes j.second_bytes full_places full_places byte_limit made) ∙ ap table_of j.joined

  order-joined : order_of b ≡ order_of x
  unfolding joined_bytes
  order-joined = ap order_of (sym j.joined) ∙ order-bytes_of (order_of x) (join_tables (table_of x) (table_of y))

  pub joins-bytes : Bytes b
  joins-bytes = subst Bytes j.joined (join-bytes x y j.first_bytes j.second_bytes full_places full_places byte_limit made)

  -- it is accepted
  pub joins-accepted : refusal b full_places full_places ≡ none
  joins-accepted =
      let few = j.joinable.few in
      subst (λ (w : List ℕ). refusal w full_places full_places ≡ none) j.joined
      (join-accepted x y j.first_bytes j.second_bytes full_places full_places byte_limit made full_places full_places (omega arith) (omega arith))

  -- the cut goes through
  pub joins-cut : cut_ok n s (table_of b) ≡ true
  joins-cut =
      facts-cut_ok n s (table_of b)
      (subst (CutFacts n s) table-joined
      (subst (λ (k : ℕ). CutFacts k s (join_tables (table_of x) (table_of y))) j.first_count
      (subst (λ (l : ℕ). CutFacts (count (table_of x)) l (join_tables (table_of x) (table_of y))) j.first_length
      (cut-join (table_of x) (table_of y) good-x good-y.closed))))

  -- and the parts are the tables that were joined, byte for byte
  pub joins-first : first_bytes b n s ≡ x
  unfolding first_bytes
  joins-first =
      ap₂ (λ (o : Order) (T : Table). bytes_of o (first_part n s T)) order-joined (sym table-joined)
      ∙ ap₂ (λ (k l : ℕ). bytes_of (order_of x) (first_part k l (join_tables (table_of x) (table_of y)))) (sym j.first_count) (sym j.first_length)
      ∙ ap (bytes_of (order_of x)) (first-join (table_of x) (table_of y) good-x good-y.closed)
      ∙ accepted-bytes x full_places full_places j.joinable.first j.first_bytes

  pub joins-second : second_bytes b n s ≡ y
  unfolding second_bytes
  joins-second =
      ap₂ (λ (o : Order) (T : Table). bytes_of o (second_part n s T)) (order-joined ∙ j.joinable.one-order) (sym table-joined)
      ∙ ap₂ (λ (k l : ℕ). bytes_of (order_of y) (second_part k l (join_tables (table_of x) (table_of y)))) (sym j.first_count) (sym j.first_length)
      ∙ ap (bytes_of (order_of y)) (second-join (table_of x) (table_of y) good-x good-y.closed)
      ∙ accepted-bytes y full_places full_places j.joinable.second j.second_bytes

-- "prove that the pair is the only one"
pub pair_one : {b : List ℕ} {n s : ℕ} {x y x' y' : List ℕ} → JoinsTo b n s x y → JoinsTo b n s x' y' → (x ≡ x') × (y ≡ y')
pair_one j k = (sym (joins-first j) ∙ joins-first k, sym (joins-second j) ∙ joins-second k)
