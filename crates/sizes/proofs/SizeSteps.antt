-- Laws of one step of the size question: what a record says, from the words that are read.
-- Assumes nothing.
use Prim.Native.Nat.{ℕ, zero, suc, ◌+◌, ◌-◌, ◌<◌, ◌≤◌}
use mathlib.Core.Path.{◌≡◌, refl, sym, ap, ap₂, ◌∙◌}
use mathlib.Core.Bool.{Bool, true, false, not, cond, ◌&&◌, ◌||◌}
use mathlib.Core.List.{List}
use native.Mathlib.Omega.{arith}
use borrow.Author.Tests.{lt-ltb, le-ltb, le-leb, lt-leb, leb-true, leb-false, not-true, not-false, eq-eqb, ne_eqb}
use lib.Dec.{leb, eqb}
use lib.ListN.{length, get_or, take, drop, length-drop}
use Rattle.paper.proofs.bytes.Reading.{word_at-drop}
use Rattle.rows.proofs.RoleCodes.{size_rule_of-size_code}
use Rattle.kindrows.specs.Codes.{size_code, size_rule_of}
use Rattle.paper.proofs.bytes.Bytes.{part-rest}
use Rattle.sizes.specs.SizeStep.{readable, step_words, step_of}
use Rattle.paper.specs.rules.Kind.{no_size, row_of}
use Rattle.paper.specs.rules.Size.{Step, lost, step_by, step_at_place, step_at}
use Rattle.paper.specs.rules.Header.{order_of}
use Rattle.paper.specs.rules.KindNo.{ARRAY}
use Rattle.paper.specs.rules.Table.{kind_in}
use Rattle.paper.specs.rules.Walk.{known}
use Rattle.paper.specs.declared.Order.{Order}
use Rattle.paper.specs.rules.Word.{word_at}

-- ── rules as numbers ──

pub size_rule_of-other : (n : ℕ) → (n ≡ 1 → ⊥) → (n ≡ 2 → ⊥) → (n ≡ 3 → ⊥) → (n ≡ 4 → ⊥) → size_rule_of n ≡ no_size
size_rule_of-other zero a b c d = refl
size_rule_of-other (suc zero) a b c d = absurd (a refl)
size_rule_of-other (suc (suc zero)) a b c d = absurd (b refl)
size_rule_of-other (suc (suc (suc zero))) a b c d = absurd (c refl)
size_rule_of-other (suc (suc (suc (suc zero)))) a b c d = absurd (d refl)
size_rule_of-other (suc (suc (suc (suc (suc n))))) a b c d = refl

-- ── a record that can be read ──

module _ (k n : ℕ) {f : Bool} (flag : f ≡ known k) where
  pub readable-unknown : not f ≡ true → true ≡ not (readable k n)
  unfolding readable
  readable-unknown e = ap (λ (b : Bool). not (b && (not (eqb k ARRAY) || leb 24 n))) (sym (not-true f e) ∙ flag)

  pub readable-other : not f ≡ false → (k ≡ ARRAY → ⊥) → false ≡ not (readable k n)
  unfolding readable
  readable-other e ne =
      ap₂ (λ (b c : Bool). not (b && (not c || leb 24 n))) (sym (not-false f e) ∙ flag) (sym (ne_eqb k ARRAY ne))

  pub readable-array : not f ≡ false → k ≡ ARRAY → not (leb 24 n) ≡ not (readable k n)
  unfolding readable
  readable-array e q =
      ap₂ (λ (b c : Bool). not (b && (not c || leb 24 n))) (sym (not-false f e) ∙ flag) (sym (eq-eqb k ARRAY q))

-- ── a record by the bytes from its place on ──

pub step_words-read : (order : Order) (s : List ℕ) {w k third element n r : ℕ} {x : Step} → w ≡ word_at order s 4 → k ≡ kind_in w → third ≡ word_at order s 8
    → element ≡ word_at order s 12 → n ≡ word_at order s 20 → r ≡ size_code (row_of k).size → x ≡ step_by (size_rule_of r) third element n → x ≡ step_words order s
step_words-read order s {k = k} {r = r} info kind e₈ e₁₂ e₂₀ code d =
    let rule : size_rule_of r ≡ (row_of k).size = ap size_rule_of code ∙ size_rule_of-size_code _ in
    d
    ∙ (λ i. step_by (rule i) (e₈ i) (e₁₂ i) (e₂₀ i))
    ∙ ap (λ (j : ℕ). step_by (row_of j).size (word_at order s 8) (word_at order s 12) (word_at order s 20)) (kind ∙ ap kind_in info)

module _ (order : Order) (s : List ℕ) {w : ℕ} (info : w ≡ word_at order s 4) {k : ℕ} (kind : k ≡ kind_in w) {t : Bool} (test : t ≡ not (readable k (length s))) where
  abbrev choose : Bool → Step
  choose b = cond b (step_words order s) lost

  step_of-chosen : choose (readable k (length s)) ≡ step_of order s
  unfolding step_of
  step_of-chosen = ap (λ (x : ℕ). choose (readable x (length s))) (kind ∙ ap kind_in info)

  pub step_of-unreadable : t ≡ true → lost ≡ step_of order s
  step_of-unreadable e = sym (ap choose (not-true (readable k (length s)) (sym test ∙ e))) ∙ step_of-chosen

  pub step_of-readable : t ≡ false → {x : Step} → x ≡ step_words order s → x ≡ step_of order s
  step_of-readable e d = d ∙ sym (ap choose (not-false (readable k (length s)) (sym test ∙ e))) ∙ step_of-chosen

-- ── the record of a type ──

-- a test of a difference is a test of a sum
leb-shift : (k p n : ℕ) → p ≤ n → leb k (n - p) ≡ leb (p + k) n
leb-shift k p n h = go (leb k (n - p)) refl
  where
    go : (z : Bool) → leb k (n - p) ≡ z → z ≡ leb (p + k) n
    go true e = let l = leb-true k (n - p) e in sym (le-leb (p + k) n (omega arith))
    go false e = let l = leb-false k (n - p) e in sym (lt-leb (p + k) n (omega arith))

module _ (b index : List ℕ) (t : ℕ) where
  pub step_at-outside : length index ≤ t → lost ≡ step_at b index t
  unfolding step_at
  step_at-outside h = rw (le-ltb _ _ h) refl

  module _ (inside : t < length index) where
    pub step_at-header : get_or index t 0 < 24 → lost ≡ step_at b index t
    unfolding step_at step_at_place
    step_at-header h = rw (lt-ltb _ _ inside, lt-leb _ _ h) refl

    pub step_at-cut : 24 ≤ get_or index t 0 → length b < get_or index t 0 + 12 → lost ≡ step_at b index t
    unfolding step_at step_at_place
    step_at-cut h c = rw (lt-ltb _ _ inside, le-leb _ _ h, lt-leb _ _ c) refl

    -- its words stand so far from the record's own place
    step_at-inside : 24 ≤ get_or index t 0 → get_or index t 0 + 12 ≤ length b → step_at b index t ≡ step_of (order_of b) (drop (get_or index t 0) b)
    unfolding step_at step_at_place step_of readable
    step_at-inside h c =
        let p = get_or index t 0 in
        let same : leb 24 (length (drop p b)) ≡ leb (p + 24) (length b) = rw length-drop (leb-shift 24 p (length b) (omega arith)) in
        rw (
          lt-ltb _ _ inside,
          le-leb _ _ h,
          le-leb _ _ c,
          word_at-drop (order_of b) b p 4,
          word_at-drop (order_of b) b p 8,
          word_at-drop (order_of b) b p 12,
          word_at-drop (order_of b) b p 20,
          same,
        )
        refl

    pub step_at-part : 24 ≤ get_or index t 0 → get_or index t 0 + 12 ≤ length b → {x : Step} (order : Order) → order ≡ order_of b
        → x ≡ step_of order (take (length b - get_or index t 0) (drop (get_or index t 0) b)) → x ≡ step_at b index t
    step_at-part h c order o e =
        e
        ∙ ap (λ (q : Order). step_of q (take (length b - get_or index t 0) (drop (get_or index t 0) b))) o
        ∙ ap (step_of (order_of b)) (part-rest b (get_or index t 0)) ∙ sym (step_at-inside h c)
