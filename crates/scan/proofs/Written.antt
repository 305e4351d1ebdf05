-- The places of a table by itself, put behind a 0 into a cleared index, are its index.
-- Assumes nothing.
use Prim.Native.Nat.{ℕ, zero, suc, ◌+◌, ◌-◌, ◌≤◌}
use mathlib.Core.Path.{◌≡◌, ap, ◌∙◌}
use mathlib.Core.List.{List, ◌∷◌, ◌++◌}
use native.Mathlib.Omega.{arith}
use lib.ListN.{length, drop}
use Rattle.paper.specs.rules.Gate.{zeros, index_of}
use Rattle.paper.specs.rules.Header.{header_length}
use Rattle.pairs.specs.Lean.{walk_behind}
use Rattle.paper.specs.rules.Table.{Table, count}
use Rattle.paper.specs.rules.Walk.{records_in, walk, table_of, places_from, places_of}
use Rattle.paper.specs.terms.Put.{put}
use Rattle.paper.proofs.bytes.Places.{length-places_of}

-- zeros are left behind some of them
pub drop-zeros : (k n : ℕ) → drop k (zeros n) ≡ zeros (n - k)
drop-zeros zero n = let same : n ≡ n - 0 = omega arith in ap zeros same
drop-zeros (suc k) zero = let same : 0 ≡ 0 - suc k = omega arith in ap zeros same
drop-zeros (suc k) (suc n) = let same : n - k ≡ suc n - suc k = omega arith in drop-zeros k n ∙ ap zeros same

put-index : (T : Table) (size : ℕ) → count T + 1 ≤ size → put (zeros size) 1 (places_of T) ≡ index_of T size
unfolding put index_of
put-index T zero h = absurd (omega arith)
put-index T (suc size) h =
    let far : suc size - (1 + length (places_of T)) ≡ suc size - (count T + 1) = omega (arith, length-places_of T) in
    ap (λ (zs : List ℕ). 0 ∷ places_of T ++ zs) (drop-zeros (1 + length (places_of T)) (suc size) ∙ ap zeros far)

pub index-alone : (b : List ℕ) (size : ℕ) → count (table_of b) + 1 ≤ size
    → put (zeros size) 1 (places_from header_length (records_in (walk_behind 0 b))) ≡ index_of (table_of b) size
unfolding walk_behind walk table_of places_of
index-alone b size h = put-index (table_of b) size h
