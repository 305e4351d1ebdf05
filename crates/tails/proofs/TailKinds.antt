-- Laws of report 12: an INT's word, and the tail of a record by its kind.
-- Assumes nothing.
use Prim.Native.Nat.{ℕ, zero, suc, ◌+◌, ◌*◌, ◌%◌, ◌≤◌, ◌<◌}
use mathlib.Core.Path.{◌≡◌, refl, sym, ap, ◌∙◌}
use mathlib.Core.Bool.{Bool, true, false, not, ◌&&◌, ◌||◌}
use mathlib.Core.List.{List, [], ◌∷◌}
use native.Mathlib.Omega.{arith}
use borrow.Author.Tests.{eq-eqb, ne_eqb, le-leb, lt-leb, not-true, not-false}
use lib.Dec.{eqb, leb}
use lib.ListN.{length, get_or}
use Rattle.paper.proofs.basics.Choices.{and-nothing, or_nothing}
use Rattle.paper.specs.rules.Choice.{differ, member}
use Rattle.paper.specs.rules.Kind.{rows, row_of}
use Rattle.paper.specs.rules.KindNo.{INT, VAR, FUNC_PROTO}
use Rattle.paper.specs.terms.Reading.{words_from, record_in}
use Rattle.paper.specs.rules.Table.{kind_in, vlen_in, tail_length, bits}
use Rattle.paper.specs.rules.Tails.{width_in, offset_in, encoding_in, int_word_ok, linkage_word_ok, parameters_in, voids_last, tail_ok}
use Rattle.paper.specs.declared.Order.{Order}
use Rattle.paper.specs.rules.Word.{word_at}
use Rattle.tails.specs.Voids.{voids_last_from}

-- ── encodings ──

pub encoding-low : (e : ℕ) → e ≤ 2 → true ≡ member e (0 ∷ 1 ∷ 2 ∷ 4 ∷ [])
encoding-low zero h = refl
encoding-low (suc zero) h = refl
encoding-low (suc (suc zero)) h = refl
encoding-low (suc (suc (suc e))) h = absurd (omega arith)

pub encoding-high : (e : ℕ) → 2 < e → eqb e 4 ≡ member e (0 ∷ 1 ∷ 2 ∷ 4 ∷ [])
encoding-high e h =
    rw (ne_eqb e 0 (λ z. omega arith), ne_eqb e 1 (λ z. omega arith), ne_eqb e 2 (λ z. omega arith)) (sym (or_nothing (eqb e 4)))

-- ── the word of an INT ──

module _ (w size : ℕ) where
  pub int-low : (bits 8 15 w ≡ 0 → ⊥) → false ≡ int_word_ok w size
  unfolding int_word_ok
  int-low n = rw (ne_eqb (bits 8 15 w) 0 n) refl

  module _ (low : bits 8 15 w ≡ 0) where
    pub int-high : (bits 28 31 w ≡ 0 → ⊥) → false ≡ int_word_ok w size
    unfolding int_word_ok
    int-high n = rw (eq-eqb (bits 8 15 w) 0 low, ne_eqb (bits 28 31 w) 0 n) refl

    module _ (high : bits 28 31 w ≡ 0) {t : Bool} (encoding : t ≡ member (encoding_in w) (0 ∷ 1 ∷ 2 ∷ 4 ∷ [])) where
      pub int-encoding : not t ≡ true → false ≡ int_word_ok w size
      unfolding int_word_ok
      int-encoding n = rw (eq-eqb (bits 8 15 w) 0 low, eq-eqb (bits 28 31 w) 0 high, sym encoding ∙ not-true t n) refl

      pub int-width : not t ≡ false → w % 256 < 1 → false ≡ int_word_ok w size
      unfolding int_word_ok
      int-width n h =
          rw (eq-eqb (bits 8 15 w) 0 low, eq-eqb (bits 28 31 w) 0 high, sym encoding ∙ not-false t n, lt-leb 1 (width_in w) (omega arith)) refl

      pub int-fits : not t ≡ false → 1 ≤ w % 256 → leb (offset_in w + w % 256) (8 * size) ≡ int_word_ok w size
      unfolding int_word_ok
      int-fits n h =
          let width : w % 256 ≡ width_in w = omega arith in
          ap (λ (x : ℕ). leb (offset_in w + x) (8 * size)) width
          ∙ rw (eq-eqb (bits 8 15 w) 0 low, eq-eqb (bits 28 31 w) 0 high, sym encoding ∙ not-false t n, le-leb 1 (width_in w) (omega arith)) refl

-- ── a tail by its kind ──

-- the three rules, by what each asks of its kind
abbrev by_kind : ℕ → Bool → Bool → Bool → Bool
by_kind k int var proto = (differ k INT || int) && (differ k VAR || var) && (differ k FUNC_PROTO || proto)

module _ (order : Order) (s : List ℕ) {info k : ℕ} (read : info ≡ word_at order s 4) (kind : k ≡ kind_in info) where
  kind-here : k ≡ kind_in (word_at order s 4)
  kind-here = kind ∙ ap kind_in read

  abbrev tail : List ℕ
  tail = words_from order s 12 (tail_length (word_at order s 4))

  abbrev int : Bool
  int = int_word_ok (get_or tail 0 0) (word_at order s 8)

  abbrev var : Bool
  var = linkage_word_ok (get_or tail 0 0)

  abbrev proto : Bool
  proto = voids_last (parameters_in tail)

  tail_ok-kind : by_kind k int var proto ≡ tail_ok (record_in order s)
  unfolding tail_ok record_in
  tail_ok-kind = ap (λ (j : ℕ). by_kind j int var proto) kind-here

  -- how long the tail of such a kind is
  tail-long : tail_length (word_at order s 4) ≡ length (row_of k).once + vlen_in (word_at order s 4) * length (row_of k).each
  unfolding tail_length
  tail-long = ap (λ (j : ℕ). length (row_of j).once + vlen_in (word_at order s 4) * length (row_of j).each) (sym kind-here)

  -- the one word of a tail that has one
  one_word : length (row_of k).once ≡ 1 → length (row_of k).each ≡ 0 → get_or tail 0 0 ≡ word_at order s 12
  one_word once each =
      let one : tail_length (word_at order s 4) ≡ 1 = tail-long ∙ (λ i. once i + vlen_in (word_at order s 4) * each i) ∙ omega arith in
      ap (λ (n : ℕ). get_or (words_from order s 12 n) 0 0) one

  pub tail-int : k ≡ INT → {w size : ℕ} → w ≡ word_at order s 12 → size ≡ word_at order s 8 → {r : Bool} → r ≡ int_word_ok w size
      → r ≡ tail_ok (record_in order s)
  unfolding row_of rows
  tail-int e word third d =
      let here : get_or tail 0 0 ≡ word_at order s 12 = one_word (ap (λ (j : ℕ). length (row_of j).once) e) (ap (λ (j : ℕ). length (row_of j).each) e) in
      d
      ∙ (λ i. int_word_ok (word i) (third i))
      ∙ ap (λ (x : ℕ). int_word_ok x (word_at order s 8)) (sym here)
      ∙ sym (ap (λ (j : ℕ). by_kind j int var proto) e ∙ and-nothing (int && true) ∙ and-nothing int)
      ∙ tail_ok-kind

  pub tail-var : k ≡ VAR → {w : ℕ} → w ≡ word_at order s 12 → {r : Bool} → r ≡ linkage_word_ok w → r ≡ tail_ok (record_in order s)
  unfolding row_of rows
  tail-var e word d =
      let here : get_or tail 0 0 ≡ word_at order s 12 = one_word (ap (λ (j : ℕ). length (row_of j).once) e) (ap (λ (j : ℕ). length (row_of j).each) e) in
      d
      ∙ ap linkage_word_ok (word ∙ sym here)
      ∙ sym (ap (λ (j : ℕ). by_kind j int var proto) e ∙ and-nothing var)
      ∙ tail_ok-kind

  pub tail-proto : k ≡ FUNC_PROTO → {v : ℕ} → v ≡ vlen_in info → {r : Bool} → r ≡ voids_last_from order s 12 v → r ≡ tail_ok (record_in order s)
  unfolding row_of rows voids_last_from
  tail-proto e {v} vlen d =
      let once : length (row_of k).once ≡ 0 = ap (λ (j : ℕ). length (row_of j).once) e in
      let each : length (row_of k).each ≡ 2 = ap (λ (j : ℕ). length (row_of j).each) e in
      let count : v ≡ vlen_in (word_at order s 4) = vlen ∙ ap vlen_in read in
      let same : 0 + vlen_in (word_at order s 4) * 2 ≡ 2 * v = omega arith in
      let long : 2 * v ≡ tail_length (word_at order s 4) = sym (tail-long ∙ (λ i. once i + vlen_in (word_at order s 4) * each i) ∙ same) in
      d
      ∙ ap (λ (n : ℕ). voids_last (parameters_in (words_from order s 12 n))) long
      ∙ sym (ap (λ (j : ℕ). by_kind j int var proto) e)
      ∙ tail_ok-kind

  pub tail-other : (k ≡ INT → ⊥) → (k ≡ FUNC_PROTO → ⊥) → (k ≡ VAR → ⊥) → true ≡ tail_ok (record_in order s)
  tail-other a b c =
      sym (rw (ne_eqb k INT a, ne_eqb k VAR c, ne_eqb k FUNC_PROTO b) refl) ∙ tail_ok-kind
