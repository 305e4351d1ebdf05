-- The two parts as pieces of the blob: what is asked of each piece, and that what is written is the part.
-- Assumes nothing.
use Prim.Native.Nat.{ℕ, zero, suc, ◌+◌, ◌-◌, ◌*◌, ◌≤◌}
use mathlib.Core.Path.{◌≡◌, sym, ap, ap₂, ◌∙◌, subst}
use mathlib.Core.List.{List, [], ◌∷◌, ◌++◌, map}
use native.Mathlib.Omega.{arith}
use lib.ListN.{length, take, drop, length-drop}
use lib.Seq.{drop-cons, drop-drop}
use Rattle.paper.proofs.bytes.Blobs.{header-first}
use Rattle.paper.proofs.bytes.Bytes.{below_left, below_right, part-rest}
use Rattle.paper.proofs.bytes.Tables.{header_of, bytes_of-parts}
use Rattle.paper.proofs.gates.Acceptance.{accepted-fits}
use Rattle.paper.proofs.joins.Grouping.{flat-rename}
use Rattle.paper.specs.declared.Order.{Order}
use Rattle.paper.specs.rules.Header.{order_of}
use Rattle.paper.specs.rules.Limits.{type_limit}
use Rattle.paper.specs.rules.Table.{Record, count}
use Rattle.paper.specs.rules.Walk.{flat, table_of, type_len_of}
use Rattle.paper.specs.rules.Word.{bytes_of_words, word_at}
use Rattle.paper.specs.terms.Fit.{Below, word_bound}
use Rattle.parts.proofs.Cutting.{count-first, length-first, count-second, whole_take, whole_drop}
use Rattle.parts.specs.Cut.{first_part, second_part, lowered, first_bytes, second_bytes}
use Rattle.shift.specs.Made.{made_header}
use Rattle.shift.specs.declared.groups.Shift.{Shift}
use Rattle.split.proofs.LoweredBytes.{lowered-bytes, same_bytes, missing}
use Rattle.split.proofs.Pieces.{facts, good, header, flat-both, sections, behind-middle, strings-here, widths}
use Rattle.split.specs.Parting.{CutAsk, PartAsk, PartPut}
use Rattle.split.specs.declared.blobs.Piece.{Piece}

module _ {b : List ℕ} {n s middle : ℕ} (w : CutAsk b n s middle) where
  abbrev firsts : List Record
  firsts = take n (table_of b).records

  abbrev seconds : List Record
  seconds = drop n (table_of b).records

  header-part : (types strings : ℕ) → made_header (order_of b) b types strings ≡ header_of (order_of b) types strings
  header-part types strings =
      ap (λ (x : List ℕ). x ++ bytes_of_words (order_of b) (types ∷ types ∷ strings ∷ [])) (ap (take 12) (header-first b w.bytes (header w)))

  flat-fits : Below word_bound (flat firsts ++ flat seconds)
  flat-fits = subst (Below word_bound) (flat-both w) (accepted-fits b w.places w.work w.accepted w.bytes).words-fit

  all-few : count (table_of b) ≤ type_limit
  all-few = (accepted-fits b w.places w.work w.accepted w.bytes).types_fit

  module _ {t : ℕ} (e : t ≡ word_at (order_of b) b 12) where
    -- ── the first ──

    abbrev first_piece : Piece
    first_piece = record { from = 24; records = n; types = middle - 24; start = 24 + t; strings = s }

    pub first-ask : {room : ℕ} → room ≡ length (first_bytes b n s) → PartAsk (length b) first_piece room
    first-ask fits =
        let l = widths w in
        let m = w.there in
        record {
          header = omega (arith, l.sum);
          short = l.short;
          records_inside = omega (arith, l.sum, l.types);
          strings-inside = omega (arith, l.sum, l.ends);
          fits = omega (arith, l.first-long);
        }

    pub first-written : (by : Shift) → by.order ≡ order_of b → by.types.0 ≡ 0 → by.names.0 ≡ 0 → {out after : List ℕ}
        → PartPut b first_piece by out after → after ≡ first_bytes b n s
    unfolding first_bytes first_part
    first-written by o none-types none-names p =
        let m = w.there in
        let many : length firsts ≡ n = count-first (facts w) in
        let long : type_len_of firsts ≡ middle - 24 = omega arith in
        let behind : List ℕ = bytes_of_words (order_of b) (flat seconds) ++ (table_of b).strings in
        p.puts firsts behind (whole_take n (table_of b).records (good w).whole) (below_left word_bound (flat firsts) (flat seconds) flat-fits) many long
        (sections w ∙ ap (λ (q : Order). bytes_of_words q (flat firsts) ++ behind) (sym o))
        ∙ ap (λ (x : List ℕ). made_header by.order b (middle - 24) s ++ (x ++ take s (drop (24 + t) b))) (same_bytes by none-types none-names firsts)
        ∙ ap₂ (λ (q : Order) (x : List ℕ). made_header q b (middle - 24) s ++ (bytes_of_words q (flat firsts) ++ take s x)) o (strings-here w e)
        ∙ ap₂ (λ (k l : ℕ). made_header (order_of b) b k l ++ (bytes_of_words (order_of b) (flat firsts) ++ take s (table_of b).strings)) (sym long)
        (sym (length-first (facts w)))
        ∙ ap (λ (x : List ℕ). x ++ (bytes_of_words (order_of b) (flat firsts) ++ take s (table_of b).strings))
        (header-part (type_len_of firsts) (length (take s (table_of b).strings)))
        ∙ sym (bytes_of-parts (order_of b) (first_part n s (table_of b)))

    -- ── the second ──

    module _ (k : ℕ) (counted : n + k ≡ count (table_of b)) where
      abbrev start : ℕ
      start = 24 + t + (s - 1)

      abbrev second_piece : Piece
      second_piece = record { from = middle; records = k; types = 24 + t - middle; start = start; strings = length b - start }

      pub second-ask : {room : ℕ} → room ≡ length (second_bytes b n s) → PartAsk (length b) second_piece room
      second-ask fits =
          let l = widths w in
          let m = w.there in
          record {
            header = omega (arith, l.sum);
            short = l.short;
            records_inside = omega (arith, l.sum, l.types);
            strings-inside = omega (arith, l.sum, l.ends, l.filled);
            fits = omega (arith, l.second-long, l.sum, l.types, l.ends, l.filled);
          }

      -- the strings begin with the zero byte that ends the first's
      strings-behind : take (length b - start) (drop start b) ≡ 0 ∷ drop s (table_of b).strings
      strings-behind =
          let l = widths w in
          let f = l.filled in
          let one : suc (s - 1) ≡ s = omega arith in
          part-rest b start
          ∙ sym (drop-drop (s - 1) (24 + t) b)
          ∙ ap (drop (s - 1)) (strings-here w e)
          ∙ drop-cons (table_of b).strings (s - 1) 0 (omega (arith, l.ends))
          ∙ ap₂ {C = List ℕ} (λ (x : ℕ) (j : ℕ). x ∷ drop j (table_of b).strings) (facts w).zero_before one

      pub second-written : (by : Shift) → by.order ≡ order_of b → by.types.0 ≡ missing n → by.names.0 ≡ missing (s - 1) → {out after : List ℕ}
          → PartPut b second_piece by out after → after ≡ second_bytes b n s
      unfolding second_bytes second_part lowered
      second-written by o types names p =
          let l = widths w in
          let m = w.there in
          let few = all-few in
          let all = count-second (facts w) in
          let d = length-drop n (table_of b).records in
          let many : length seconds ≡ k = omega arith in
          let long : type_len_of seconds ≡ 24 + t - middle = omega (arith, l.types) in
          let lowers : type_len_of (map (lowered n s) seconds) ≡ type_len_of seconds = ap (λ (j : ℕ). 4 * j) (flat-rename (λ v. v - n) (λ v. v - (s - 1)) seconds) in
          let count-strings : length b - start ≡ length (0 ∷ drop s (table_of b).strings) =
          let dl = length-drop s (table_of b).strings in omega (arith, l.sum, l.ends, l.filled) in
          let strings : List ℕ = 0 ∷ drop s (table_of b).strings in
          p.puts seconds (table_of b).strings (whole_drop n (table_of b).records (good w).whole) (below_right word_bound (flat firsts) (flat seconds) flat-fits) many long
          (behind-middle w ∙ ap (λ (q : Order). bytes_of_words q (flat seconds) ++ (table_of b).strings) (sym o))
          ∙ ap₂ (λ (x y : List ℕ). made_header by.order b (24 + t - middle) (length b - start) ++ (x ++ y))
          (lowered-bytes (order_of b) n s (omega (arith, (facts w).few)) l.filled (omega (arith, l.ends, l.sum, l.short)) by o types names seconds (facts w).behind)
          strings-behind
          ∙ ap (λ (q : Order). made_header q b (24 + t - middle) (length b - start) ++ (bytes_of_words (order_of b) (flat (map (lowered n s) seconds)) ++ strings)) o
          ∙ ap₂ (λ (i j : ℕ). made_header (order_of b) b i j ++ (bytes_of_words (order_of b) (flat (map (lowered n s) seconds)) ++ strings))
          (sym (lowers ∙ long)) count-strings
          ∙ ap (λ (x : List ℕ). x ++ (bytes_of_words (order_of b) (flat (map (lowered n s) seconds)) ++ strings))
          (header-part (type_len_of (map (lowered n s) seconds)) (length strings))
          ∙ sym (bytes_of-parts (order_of b) (second_part n s (table_of b)))
