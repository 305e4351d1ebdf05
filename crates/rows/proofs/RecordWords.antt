-- Laws of `record_in`: which words of some bytes a record's kind, third word and tail are.
-- Assumes nothing.
use Prim.Native.Nat.{ℕ, zero, suc, ◌+◌, ◌*◌, ◌<◌}
use mathlib.Core.Path.{◌≡◌, sym, ap, ◌∙◌}
use mathlib.Core.List.{List}
use native.Mathlib.Omega.{arith}
use lib.ListN.{length, get_or}
use Rattle.paper.specs.rules.Kind.{rows, row_of}
use Rattle.paper.specs.rules.KindNo.{INT, ARRAY, DECL_TAG}
use Rattle.paper.specs.terms.Reading.{words_from, record_in}
use Rattle.paper.specs.rules.Table.{Record, kind_in, vlen_in, flag_in, kind_of, vlen_of, flag_of, tail_length}
use Rattle.paper.specs.declared.Order.{Order}
use Rattle.paper.specs.rules.Word.{word_at}

module _ (order : Order) (s : List ℕ) {r : Record} (is : record_in order s ≡ r) where
  pub info-read : {w : ℕ} → w ≡ word_at order s 4 → w ≡ r.info
  unfolding record_in
  info-read e = e ∙ ap (λ (x : Record). x.info) is

  pub third-read : {w : ℕ} → w ≡ word_at order s 8 → w ≡ r.third
  unfolding record_in
  third-read e = e ∙ ap (λ (x : Record). x.third) is

  pub kind-read : {w k : ℕ} → w ≡ word_at order s 4 → k ≡ kind_in w → k ≡ kind_of r
  kind-read e d = d ∙ ap kind_in (info-read e)

  pub vlen-read : {w v : ℕ} → w ≡ word_at order s 4 → v ≡ vlen_in w → v ≡ vlen_of r
  vlen-read e d = d ∙ ap vlen_in (info-read e)

  pub flag-read : {w f : ℕ} → w ≡ word_at order s 4 → f ≡ flag_in w → f ≡ flag_of r
  flag-read e d = d ∙ ap flag_in (info-read e)

module _ (order : Order) (s : List ℕ) where
  pub get_d-words_from : (p n j : ℕ) → j < n → get_or (words_from order s p n) j 0 ≡ word_at order s (p + 4 * j)
  get_d-words_from p zero j h = absurd (omega arith)
  get_d-words_from p (suc n) zero h = let here : p ≡ p + 4 * 0 = omega arith in ap (word_at order s) here
  get_d-words_from p (suc n) (suc j) h =
      let there : p + 4 + 4 * j ≡ p + 4 * suc j = omega arith in
      get_d-words_from (p + 4) n j (omega arith) ∙ ap (word_at order s) there

  -- the tail that an info word asks for
  pub tail-read : {w n : ℕ} → w ≡ word_at order s 4 → n ≡ tail_length w → (record_in order s).tail ≡ words_from order s 12 n
  unfolding record_in
  tail-read e d = ap (words_from order s 12) (sym (d ∙ ap tail_length e))

  -- a word of a tail that stands once
  pub once-read : (k j : ℕ) → kind_of (record_in order s) ≡ k → j < length (row_of k).once → {w : ℕ} → w ≡ word_at order s (12 + 4 * j)
      → w ≡ get_or (record_in order s).tail j 0
  unfolding record_in tail_length
  once-read k j e h d =
      let kind = kind_in (word_at order s 4) in
      let long : length (row_of kind).once ≡ length (row_of k).once = ap (λ (i : ℕ). length (row_of i).once) e in
      d ∙ sym (get_d-words_from 12 (tail_length (word_at order s 4)) j (omega arith))

  -- the words of an INT, an ARRAY and a DECL_TAG
  pub int-read : kind_of (record_in order s) ≡ INT → {w : ℕ} → w ≡ word_at order s 12 → w ≡ get_or (record_in order s).tail 0 0
  unfolding row_of rows
  int-read e d = once-read INT 0 e (omega arith) d

  pub element-read : kind_of (record_in order s) ≡ ARRAY → {w : ℕ} → w ≡ word_at order s 12 → w ≡ get_or (record_in order s).tail 0 0
  unfolding row_of rows
  element-read e d = once-read ARRAY 0 e (omega arith) d

  pub index_read : kind_of (record_in order s) ≡ ARRAY → {w : ℕ} → w ≡ word_at order s 16 → w ≡ get_or (record_in order s).tail 1 0
  unfolding row_of rows
  index_read e d = once-read ARRAY 1 e (omega arith) d

  pub component-read : kind_of (record_in order s) ≡ DECL_TAG → {w : ℕ} → w ≡ word_at order s 12 → w ≡ get_or (record_in order s).tail 0 0
  unfolding row_of rows
  component-read e d = once-read DECL_TAG 0 e (omega arith) d
