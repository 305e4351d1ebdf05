-- Where the records of a pair stand, each in the blob that holds it; and the sizes that the pair's size question answers.
-- Assumes nothing.
use Prim.Native.Nat.{ℕ, zero, suc, ◌+◌, ◌-◌, ◌*◌, ◌≤◌, ◌<◌}
use mathlib.Core.Path.{◌≡◌, refl, sym, ap, ◌∙◌, subst}
use mathlib.Core.Bool.{Bool, true, false, cond}
use mathlib.Core.List.{List, ◌∷◌, ◌++◌}
use native.Mathlib.Omega.{arith}
use borrow.Author.Tests.{leb-true, leb-false}
use lib.Dec.{leb}
use lib.ListN.{length, get_or, take, drop, length-append, length-replicate, get_or-append}
use lib.Seq.{get_or-append-add, take_at}
use Rattle.pairs.proofs.Pairs.{count-over, base-record, own-record, base-fits, own-blob, own-fits}
use Rattle.pairs.specs.Lean.{own_records, table_over, places_over, index_over, step_over, size_over}
use Rattle.pairs.specs.Leaning.{own_table, PairReadable}
use Rattle.paper.proofs.bytes.Bytes.{length-bytes_of_words}
use Rattle.paper.proofs.bytes.Places.{length-places_of, place-record, record-fits}
use Rattle.paper.proofs.bytes.Reading.{record_in-whole}
use Rattle.paper.proofs.bytes.Sections.{whole-at}
use Rattle.paper.proofs.gates.Acceptance.{accepted-bytes}
use Rattle.paper.proofs.gates.SizeAsked.{steps-exact, step-placed}
use Rattle.paper.proofs.walks.Insides.{sound-refs, sound-ends}
use Rattle.paper.specs.rules.Gate.{zeros}
use Rattle.paper.specs.rules.Header.{header_length, order_of}
use Rattle.paper.specs.rules.Kind.{row_of}
use Rattle.paper.specs.rules.Size.{step_by, step_at, step_in, exact_size, answer_of}
use Rattle.paper.specs.rules.Table.{Record, Table, count, nothing, record_at, kind_of, words_of}
use Rattle.paper.specs.rules.Walk.{table_of, bytes_of, places_from, places_of}
use Rattle.paper.specs.rules.Word.{bytes_of_words}
use Rattle.paper.specs.declared.Order.{Order}
use Rattle.paper.specs.terms.Fit.{Bytes, Fits}
use Rattle.paper.specs.terms.Good.{Sound}
use Rattle.paper.specs.terms.Reading.{record_in}

-- the bytes of a record at its place in a table's blob
record-bytes : (order : Order) (B : Table) (t : ℕ) → t < count B → (r : Record) → get_or B.records t nothing ≡ r
    → take (4 * length (words_of r)) (drop (get_or (places_of B) t 0) (bytes_of order B)) ≡ bytes_of_words order (words_of r)
record-bytes order B t h r e =
    subst (λ (x : Record). take (4 * length (words_of x)) (drop (get_or (places_of B) t 0) (bytes_of order B)) ≡ bytes_of_words order (words_of x)) e
    (let ws = words_of (get_or B.records t nothing) in
    ap (take (4 * length ws)) (place-record order B t h) ∙ take_at (bytes_of_words order ws) _ (4 * length ws) (length-bytes_of_words order ws))

-- and the record that they are
record-there : (order : Order) (B : Table) → Fits B → (t : ℕ) → t < count B
    → record_in order (drop (get_or (places_of B) t 0) (bytes_of order B)) ≡ get_or B.records t nothing
record-there order B fits t h =
    ap (record_in order) (place-record order B t h)
    ∙ record_in-whole order (get_or B.records t nothing) _ (whole-at B.records fits.whole t h) (record-fits B fits t h)

module _ (base own : List ℕ) where
  abbrev A : Table
  A = table_of base

  abbrev U : Table
  U = own_table base own

  abbrev T : Table
  T = table_over base own

  -- ── the places ──

  pub length-places_over : length (places_over base own) ≡ count T
  unfolding places_over places_of
  length-places_over =
      let a = length-places_of A in
      let u = length-places_of U in
      let c = count-over base own in
      let l = length-append (places_from header_length A.records) (places_from header_length (own_records base own)) in
      omega arith

  pub place_base : (t : ℕ) → t < count A → get_or (places_over base own) t 0 ≡ get_or (places_of A) t 0
  unfolding places_over
  place_base t h = let a = length-places_of A in get_or-append (places_of A) (places_from header_length (own_records base own)) 0 t (omega arith)

  pub place-own : (t : ℕ) → get_or (places_over base own) (count A + t) 0 ≡ get_or (places_of U) t 0
  unfolding places_over places_of
  place-own t =
      ap (λ (n : ℕ). get_or (places_from header_length A.records ++ places_from header_length (own_records base own)) (n + t) 0) (sym (length-places_of A))
      ∙ get_or-append-add (places_from header_length A.records) (places_from header_length (own_records base own)) t 0

  -- the index that a leaning check leaves
  module _ (places : ℕ) (enough : count T < places) where
    pub length-index_over : length (index_over base own places) ≡ places
    unfolding index_over
    length-index_over =
        let l = length-append (0 ∷ places_over base own) (zeros (places - (count T + 1))) in
        let p = length-places_over in
        let z = length-replicate {A = ℕ} (places - (count T + 1)) 0 in
        omega arith

    pub get_d-index_over : (t : ℕ) → t < count T → get_or (index_over base own places) (suc t) 0 ≡ get_or (places_over base own) t 0
    unfolding index_over
    get_d-index_over t h = let p = length-places_over in get_or-append (places_over base own) (zeros (places - (count T + 1))) 0 t (omega arith)

  module _ (places work : ℕ) (r : PairReadable base own places work) (bytes-base : Bytes base) (bytes-own : Bytes own) where
    -- at a place of the base stand the bytes of that record of the base
    pub base-place : (t : ℕ) → t < count A → let ws = words_of (record_at T (suc t)) in
        take (4 * length ws) (drop (get_or (places_over base own) t 0) base) ≡ bytes_of_words (order_of base) ws
    base-place t h =
        let ws = words_of (record_at T (suc t)) in
        ap (λ (p : ℕ). take (4 * length ws) (drop p base)) (place_base t h)
        ∙ ap (λ (s : List ℕ). take (4 * length ws) (drop (get_or (places_of A) t 0) s)) (sym (accepted-bytes base places work r.base-accepted bytes-base))
        ∙ record-bytes (order_of base) A t h (record_at T (suc t)) (sym (base-record base own (suc t) h))

    -- and at one of the other's those of a record of its own
    pub own-place : (t : ℕ) → t < length (own_records base own) → let ws = words_of (record_at T (suc (count A + t))) in
        take (4 * length ws) (drop (get_or (places_over base own) (count A + t) 0) own) ≡ bytes_of_words (order_of own) ws
    own-place t h =
        let ws = words_of (record_at T (suc (count A + t))) in
        ap (λ (p : ℕ). take (4 * length ws) (drop p own)) (place-own t)
        ∙ ap (λ (s : List ℕ). take (4 * length ws) (drop (get_or (places_of U) t 0) s)) (sym (own-blob base own places work r bytes-base bytes-own))
        ∙ record-bytes (order_of own) U t h (record_at T (suc (count A + t))) (sym (own-record base own t))

    -- the record that the bytes there begin with, in each blob
    pub base_there : (t : ℕ) → t < count A → record_in (order_of base) (drop (get_or (places_over base own) t 0) base) ≡ get_or T.records t nothing
    base_there t h =
        ap (λ (p : ℕ). record_in (order_of base) (drop p base)) (place_base t h)
        ∙ ap (λ (s : List ℕ). record_in (order_of base) (drop (get_or (places_of A) t 0) s)) (sym (accepted-bytes base places work r.base-accepted bytes-base))
        ∙ record-there (order_of base) A (base-fits base own places work r bytes-base bytes-own) t h
        ∙ sym (base-record base own (suc t) h)

    pub own-there : (t : ℕ) → t < length (own_records base own)
        → record_in (order_of own) (drop (get_or (places_over base own) (count A + t) 0) own) ≡ get_or T.records (count A + t) nothing
    own-there t h =
        ap (λ (p : ℕ). record_in (order_of own) (drop p own)) (place-own t)
        ∙ ap (λ (s : List ℕ). record_in (order_of own) (drop (get_or (places_of U) t 0) s)) (sym (own-blob base own places work r bytes-base bytes-own))
        ∙ record-there (order_of own) U (own-fits base own places work r bytes-base bytes-own) t h
        ∙ sym (own-record base own t)

    -- ── sizes ──

    -- what a record says of a size goes by the record alone
    step_in-record : (B C : Table) (t u : ℕ) → record_at B t ≡ record_at C u → step_in B t ≡ step_in C u
    unfolding step_in
    step_in-record B C t u e = ap (λ (x : Record). step_by (row_of (kind_of x)).size x.third (get_or x.tail 0 0) (get_or x.tail 2 0)) e

    module _ (index : List ℕ) (long : count T < length index) (at : (t : ℕ) → t < count T → get_or index (suc t) 0 ≡ get_or (places_over base own) t 0) where
      step-base : (t : ℕ) → t < count A → step_at base index (suc t) ≡ step_in T (suc t)
      step-base t h =
          let c = count-over base own in
          ap (λ (b : List ℕ). step_at b index (suc t)) (sym (accepted-bytes base places work r.base-accepted bytes-base))
          ∙ step-placed (order_of base) A (base-fits base own places work r bytes-base bytes-own) index t (suc t) h (omega arith)
          (at t (omega arith) ∙ place_base t h)
          ∙ step_in-record A T (suc t) (suc t) (sym (base-record base own (suc t) h))

      step-own : (t : ℕ) → t < length (own_records base own) → step_at own index (suc (count A + t)) ≡ step_in T (suc (count A + t))
      step-own t h =
          let c = count-over base own in
          ap (λ (b : List ℕ). step_at b index (suc (count A + t))) (sym (own-blob base own places work r bytes-base bytes-own))
          ∙ step-placed (order_of own) U (own-fits base own places work r bytes-base bytes-own) index t (suc (count A + t)) h (omega arith)
          (at (count A + t) (omega arith) ∙ place-own t)
          ∙ step_in-record U T (suc t) (suc (count A + t)) (sym (own-record base own t))

      step-over : (t : ℕ) → 1 ≤ t → t ≤ count T → step_over base (count A) own index t ≡ step_in T t
      unfolding step_over
      step-over zero low high = absurd (omega arith)
      step-over (suc t) low high = go (leb (suc t) (count A)) refl
        where
          go : (z : Bool) → leb (suc t) (count A) ≡ z → cond z (step_at base index (suc t)) (step_at own index (suc t)) ≡ step_in T (suc t)
          go true e = step-base t (leb-true (suc t) (count A) e)
          go false e =
              let c = count-over base own in
              let past = leb-false (suc t) (count A) e in
              let same : suc (count A + (t - count A)) ≡ suc t = omega arith in
              subst (λ (k : ℕ). step_at own index k ≡ step_in T k) same (step-own (t - count A) (omega arith))

      -- the pair's size question, with the base's count, answers the exact size in the table of both
      pub size_over-exact : Sound T → (t : ℕ) → t ≤ count T → size_over base (count A) own index t ≡ answer_of (exact_size T t)
      unfolding size_over
      size_over-exact sound t h =
          steps-exact T (sound-refs sound) (sound-ends sound) (step_over base (count A) own index) step-over (length index) long t h
