-- Demand 1: what a check and a join leave in every lent slice, refused or not; the places in a check's index, and the sizes that it answers.
-- Assumes nothing.
use Prim.Native.Nat.{ℕ, zero, suc, ◌+◌, ◌-◌, ◌*◌, ◌≤◌, ◌<◌}
use mathlib.Core.Path.{◌≡◌, sym, ap, ◌∙◌}
use mathlib.Core.List.{List, ◌∷◌, ◌++◌}
use mathlib.Core.Option.{none, some}
use native.Mathlib.Omega.{arith}
use lib.ListN.{length, get_or, take, drop, length-append, length-take, length-replicate, get_or-append}
use lib.Seq.{get_or-take, take_all}
use Rattle.paper.proofs.gates.Acceptance.{accepted-meets}
use Rattle.paper.proofs.gates.Wheres.{place-bytes}
use Rattle.paper.proofs.Demands.{accepted-size}
use Rattle.paper.proofs.bytes.Places.{length-places_of}
use Rattle.paper.specs.rules.Answer.{Answer, accepted, value}
use Rattle.paper.specs.terms.Fit.{Bytes}
use Rattle.paper.specs.rules.Gate.{refusal, zeros, index_of, Outcome, outcome, gate}
use Rattle.paper.specs.rules.Header.{order_of}
use Rattle.paper.specs.rules.Join.{joined_bytes, join_refusal, join_outcome, join}
use Rattle.paper.specs.rules.Size.{exact_size, answer_of, size_of}
use Rattle.paper.specs.rules.Table.{Table, count, record_at, words_of}
use Rattle.paper.specs.rules.Walk.{table_of, places_of, place_at}
use Rattle.paper.specs.rules.Word.{bytes_of_words}

-- ── a check ──

module _ (b : List ℕ) (places work : ℕ) where
  -- a refused table gets its report, and both slices end all 0
  pub gate-refused : {a : Answer} → refusal b places work ≡ some a → gate b places work ≡ record { answer = a; index = zeros places; work = zeros work }
  unfolding gate
  gate-refused e = ap (outcome (table_of b) places work) e

  -- an accepted one gets its count, the index its places, and the work slice ends all 0
  pub gate-accepted : refusal b places work ≡ none
      → gate b places work ≡ record { answer = accepted (count (table_of b)); index = index_of (table_of b) places; work = zeros work }
  unfolding gate
  gate-accepted e = ap (outcome (table_of b) places work) e

-- ── a join ──

module _ (a b : List ℕ) (places work : ℕ) (out : List ℕ) where
  -- a refusal changes no output byte
  pub join-refused : {x : Answer} → join_refusal a b places work (length out) ≡ some x
      → join a b places work out ≡ record { answer = x; output = out; index = zeros places; work = zeros work }
  unfolding join
  join-refused e = ap (join_outcome (joined_bytes a b) places work out) e

  -- success answers the joined length, and changes no output byte past it
  pub join-made : join_refusal a b places work (length out) ≡ none
      → join a b places work out
      ≡ record {
        answer = value (length (joined_bytes a b));
        output = joined_bytes a b ++ drop (length (joined_bytes a b)) out;
        index = zeros places;
        work = zeros work;
      }
  unfolding join
  join-made e = ap (join_outcome (joined_bytes a b) places work out) e

-- ── the index that a check leaves ──

module _ (T : Table) (places : ℕ) (enough : count T < places) where
  pub length-index_of : length (index_of T places) ≡ places
  unfolding index_of
  length-index_of =
      let l = length-append (0 ∷ places_of T) (zeros (places - (count T + 1))) in
      let p = length-places_of T in
      let z = length-replicate {A = ℕ} (places - (count T + 1)) 0 in
      omega arith

  pub get_d-index_of : (t : ℕ) → t < count T → get_or (index_of T places) (suc t) 0 ≡ get_or (places_of T) t 0
  unfolding index_of
  get_d-index_of t h = let p = length-places_of T in get_or-append (places_of T) (zeros (places - (count T + 1))) 0 t (omega arith)

module _ (b : List ℕ) (bytes : Bytes b) (places work : ℕ) (e : refusal b places work ≡ none) where
  enough : count (table_of b) < places
  enough = (accepted-meets b places work e).readable.enough_places

  -- every place lent is still there
  pub index-length : length (gate b places work).index ≡ places
  index-length = ap (λ (o : Outcome). length o.index) (gate-accepted b places work e) ∙ length-index_of (table_of b) places enough

  -- place k holds where in the blob the bytes of record k stand
  pub index-place : (k : ℕ) → 1 ≤ k → k ≤ count (table_of b)
      → take (4 * length (words_of (record_at (table_of b) k))) (drop (get_or (gate b places work).index k 0) b)
      ≡ bytes_of_words (order_of b) (words_of (record_at (table_of b) k))
  unfolding place_at
  index-place zero low high = absurd (omega arith)
  index-place (suc t) low high =
      let T = table_of b in
      let ws = words_of (record_at T (suc t)) in
      ap (λ (o : Outcome). take (4 * length ws) (drop (get_or o.index (suc t) 0) b)) (gate-accepted b places work e)
      ∙ ap (λ (p : ℕ). take (4 * length ws) (drop p b)) (get_d-index_of T places enough t high)
      ∙ place-bytes b bytes (accepted-meets b places work e).readable (suc t) low high

  -- cut to n + 1 places or longer, it answers every type's exact size
  pub checked-size : (k : ℕ) → count (table_of b) < k → (t : ℕ) → t ≤ count (table_of b)
      → size_of b (take k (gate b places work).index) t ≡ answer_of (exact_size (table_of b) t)
  checked-size k long t h =
      let T = table_of b in
      ap (λ (o : Outcome). size_of b (take k o.index) t) (gate-accepted b places work e)
      ∙ accepted-size b bytes places work e (take k (index_of T places))
      (let l = length-take k (index_of T places) in let m = length-index_of T places enough in let n = enough in omega arith)
      (λ u l. get_or-take k (index_of T places) (suc u) 0 (omega arith) ∙ get_d-index_of T places enough u l)
      t h

  -- and so it does whole
  pub whole-size : (t : ℕ) → t ≤ count (table_of b) → size_of b (gate b places work).index t ≡ answer_of (exact_size (table_of b) t)
  whole-size t h =
      ap (λ (i : List ℕ). size_of b i t) (sym (take_all places (gate b places work).index (omega (arith, index-length))))
      ∙ checked-size places enough t h
