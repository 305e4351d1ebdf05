-- The index of a pair: what `scan_behind` puts behind the places that the base's check left.
-- Assumes nothing.
use Prim.Native.Nat.{ℕ, suc, ◌+◌, ◌-◌}
use mathlib.Core.Path.{◌≡◌, refl, sym, ap, ◌∙◌}
use mathlib.Core.List.{List, ◌∷◌, ◌++◌}
use native.Mathlib.Omega.{arith}
use lib.ListN.{length, drop}
use lib.Seq.{take_at, drop-append-add}
use Rattle.pairs.proofs.Pairs.{count-over}
use Rattle.pairs.specs.Lean.{own_records, table_over, places_over, index_over}
use Rattle.pairs.specs.Leaning.{own_table}
use Rattle.paper.proofs.bytes.Places.{length-places_of}
use Rattle.paper.specs.rules.Gate.{zeros, index_of}
use Rattle.paper.specs.rules.Header.{header_length}
use Rattle.paper.specs.rules.Table.{count}
use Rattle.paper.specs.rules.Walk.{table_of, places_of, places_from}
use Rattle.paper.specs.terms.Put.{put}
use Rattle.scan.proofs.Written.{drop-zeros}

-- some numbers put behind others, over the zeros that follow these
put-behind : (s u : List ℕ) (k : ℕ) → put (s ++ zeros k) (length s) u ≡ (s ++ u) ++ zeros (k - length u)
unfolding put
put-behind s u k =
    ap (λ (x : List ℕ). x ++ u ++ drop (length s + length u) (s ++ zeros k)) (take_at s (zeros k) (length s) refl)
    ∙ ap (λ (x : List ℕ). (s ++ u) ++ x) (drop-append-add s (zeros k) (length u) ∙ drop-zeros (length u) k)

pub index-over : (base own : List ℕ) (places : ℕ)
    → put (index_of (table_of base) places) (suc (count (table_of base))) (places_from header_length (own_records base own)) ≡ index_over base own places
unfolding index_of index_over places_over places_of
index-over base own places =
    let A = table_of base in
    let n = length-places_of A in
    let u = length-places_of (own_table base own) in
    let c = count-over base own in
    let left : places - (count A + 1) - length (places_from header_length (own_records base own)) ≡ places - (count (table_over base own) + 1) = omega arith in
    ap (λ (k : ℕ). put (0 ∷ places_of A ++ zeros (places - (count A + 1))) (suc k) (places_from header_length (own_records base own))) (sym n)
    ∙ put-behind (0 ∷ places_of A) (places_from header_length (own_records base own)) (places - (count A + 1))
    ∙ ap (λ (k : ℕ). (0 ∷ places_of A ++ places_from header_length (own_records base own)) ++ zeros k) left
