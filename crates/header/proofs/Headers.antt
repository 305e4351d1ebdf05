-- Laws of `Header`: the tests of phase 1 by the bytes and words that code reads, and what they make of a report.
-- Assumes nothing.
use Prim.Native.Nat.{ℕ, ◌+◌, ◌-◌, ◌%◌, ◌<◌, ◌≤◌}
use mathlib.Core.Path.{◌≡◌, refl, sym, ap, ◌∙◌}
use mathlib.Core.Bool.{Bool, true, false, not, ◌&&◌, ◌||◌}
use mathlib.Core.List.{List, [], ◌∷◌}
use mathlib.Core.Option.{none, some}
use native.Mathlib.Nat.{add-zero}
use native.Mathlib.Omega.{arith}
use borrow.Author.Tests.{eq-eqb, ne_eqb, lt-ltb, le-ltb, ltb-true, ltb-false}
use lib.Dec.{eqb, ltb}
use lib.ListN.{length, get_or, take, length-take}
use lib.Seq.{get_or-drop}
use Rattle.paper.proofs.basics.Choices.{and-nothing, or_left, or_right, same_true}
use Rattle.paper.specs.rules.Answer.{report}
use Rattle.paper.specs.rules.Choice.{differ, same}
use Rattle.paper.specs.rules.Gate.{naming}
use Rattle.paper.specs.rules.Header.{order_of, magic_first, magic_second, opening, type_off, type_len, str_off, str_len, strings_in}
use Rattle.paper.specs.rules.Header.{opening_bad, header_length_bad, sections_bad, strings_bad}
use Rattle.pairs.specs.Lean.{length_bad_behind, end_bad, other_opening}
use Rattle.paper.specs.rules.Limits.{byte_limit}
use Rattle.paper.specs.rules.Word.{word_at}
use Rattle.paper.specs.declared.Order.{Order}
use Rattle.header.specs.Header.{opens_otherwise, begins_with, report_by}

-- numbers that are not equal differ
differ-other : (m n : ℕ) → (m ≡ n → ⊥) → differ m n ≡ true
differ-other m n h = ap not (ne_eqb m n h)

-- a test is what its result is
pub tells : {r t v : Bool} → r ≡ t → r ≡ v → t ≡ v
tells p q = sym p ∙ q

-- ── report 1, by a difference ──

module _ (before : ℕ) (b : List ℕ) where
  pub length_bad-short : length b < 24 → true ≡ length_bad_behind before b
  unfolding length_bad_behind
  length_bad-short h = sym (or_left _ (lt-ltb _ _ h))

  pub length_bad-before : byte_limit < before → true ≡ length_bad_behind before b
  unfolding length_bad_behind
  length_bad-before h = sym (or_right (ltb (length b) 24) (lt-ltb byte_limit (before + length b) (omega arith)))

  pub length_bad-both : 24 ≤ length b → before ≤ byte_limit → ltb (byte_limit - before) (length b) ≡ length_bad_behind before b
  unfolding length_bad_behind
  length_bad-both h k = go (ltb (byte_limit - before) (length b)) refl ∙ ap (λ (t : Bool). t || ltb byte_limit (before + length b)) (sym (le-ltb _ _ h))
    where
      go : (t : Bool) → ltb (byte_limit - before) (length b) ≡ t → t ≡ ltb byte_limit (before + length b)
      go true e = let l = ltb-true (byte_limit - before) (length b) e in sym (lt-ltb byte_limit (before + length b) (omega arith))
      go false e = let l = ltb-false (byte_limit - before) (length b) e in sym (le-ltb byte_limit (before + length b) (omega arith))

-- ── report 2 ──

-- four tests do not all pass exactly where one of them, turned, does
not-and : (s t u v : Bool) → not (s && (t && (u && (v && true)))) ≡ (not s || not t || not u || not v)
not-and true true true true = refl
not-and true true true false = refl
not-and true true false v = refl
not-and true false u v = refl
not-and false t u v = refl

module _ (first second : ℕ) where
  magics : List ℕ
  magics = first ∷ second ∷ 1 ∷ 0 ∷ []

  pub opens-short : (b : List ℕ) → length b < 4 → opens_otherwise b first second ≡ true
  unfolding opens_otherwise magics
  opens-short b h = go (same (take 4 b) magics) refl
    where
      go : (t : Bool) → same (take 4 b) magics ≡ t → not t ≡ true
      go true e = absurd (omega (arith, simp length-take at (ap length (same_true (take 4 b) magics e))))
      go false e = refl

  opens-bytes : (b : List ℕ) → 4 ≤ length b
      → opens_otherwise b first second ≡ (differ (get_or b 0 0) first || differ (get_or b 1 0) second || differ (get_or b 2 0) 1 || differ (get_or b 3 0) 0)
  unfolding opens_otherwise
  opens-bytes [] h = absurd (omega arith)
  opens-bytes (x ∷ []) h = absurd (omega arith)
  opens-bytes (x ∷ y ∷ []) h = absurd (omega arith)
  opens-bytes (x ∷ y ∷ z ∷ []) h = absurd (omega arith)
  opens-bytes (x ∷ y ∷ z ∷ w ∷ s) h = not-and (eqb x first) (eqb y second) (eqb z 1) (eqb w 0)

  module _ (b : List ℕ) (long : 4 ≤ length b) where
    pub opens-first : (get_or b 0 0 ≡ first → ⊥) → true ≡ opens_otherwise b first second
    opens-first h = sym (opens-bytes b long ∙ simp (ne_eqb _ _ h))

    pub opens-second : get_or b 0 0 ≡ first → (get_or b 1 0 ≡ second → ⊥) → true ≡ opens_otherwise b first second
    opens-second e₀ h = sym (opens-bytes b long ∙ simp (eq-eqb _ _ e₀, ne_eqb _ _ h))

    pub opens-third : get_or b 0 0 ≡ first → get_or b 1 0 ≡ second → (get_or b 2 0 ≡ 1 → ⊥) → true ≡ opens_otherwise b first second
    opens-third e₀ e₁ h = sym (opens-bytes b long ∙ simp (eq-eqb _ _ e₀, eq-eqb _ _ e₁, ne_eqb _ _ h))

    pub opens-fourth : get_or b 0 0 ≡ first → get_or b 1 0 ≡ second → get_or b 2 0 ≡ 1 → differ (get_or b 3 0) 0 ≡ opens_otherwise b first second
    opens-fourth e₀ e₁ e₂ = sym (opens-bytes b long ∙ simp (eq-eqb _ _ e₀, eq-eqb _ _ e₁, eq-eqb _ _ e₂))

-- by the order that the first two bytes say
pub opening-by : (b : List ℕ) {o : Order} → o ≡ order_of b → opens_otherwise b (magic_first o) (magic_second o) ≡ opening_bad b
unfolding opening_bad opens_otherwise
opening-by b e = ap (λ (o : Order). not (same (take 4 b) (opening o))) e

-- ── report 26 ──

module _ (first second : ℕ) where
  pub begins-short : (b : List ℕ) → length b < 2 → false ≡ begins_with b first second
  unfolding begins_with
  begins-short [] h = refl
  begins-short (x ∷ []) h = go (eqb x first)
    where
      go : (t : Bool) → false ≡ (t && false)
      go true = refl
      go false = refl
  begins-short (x ∷ y ∷ s) h = absurd (omega arith)

  begins-bytes : (b : List ℕ) → 2 ≤ length b → begins_with b first second ≡ (eqb (get_or b 0 0) first && (eqb (get_or b 1 0) second && true))
  unfolding begins_with
  begins-bytes [] h = absurd (omega arith)
  begins-bytes (x ∷ []) h = absurd (omega arith)
  begins-bytes (x ∷ y ∷ s) h = refl

  module _ (b : List ℕ) (long : 2 ≤ length b) where
    pub begins-first : (get_or b 0 0 ≡ first → ⊥) → false ≡ begins_with b first second
    begins-first h = sym (begins-bytes b long ∙ simp (ne_eqb _ _ h))

    pub begins-second : get_or b 0 0 ≡ first → eqb (get_or b 1 0) second ≡ begins_with b first second
    begins-second e = sym (begins-bytes b long ∙ simp (eq-eqb _ _ e, and-nothing))

-- the two bytes of the base's order, turned round
pub other_opening-by : (base b : List ℕ) {o : Order} → o ≡ order_of base → begins_with b (magic_second o) (magic_first o) ≡ other_opening base b
unfolding other_opening begins_with
other_opening-by base b e = ap (λ (o : Order). same (take 2 b) (magic_second o ∷ magic_first o ∷ [])) e

-- ── report 4, from the words that are read ──

module _ (b : List ℕ) where
  pub sections_bad-offset : {w : ℕ} → w ≡ word_at (order_of b) b 8 → (w ≡ 0 → ⊥) → true ≡ sections_bad b
  unfolding sections_bad type_off
  sections_bad-offset e h = sym (or_left _ (or_left _ (or_left _ (differ-other _ _ (λ z. h (e ∙ z))))))

  pub sections_bad-multiple : {w : ℕ} → w ≡ word_at (order_of b) b 12 → (w % 4 ≡ 0 → ⊥) → true ≡ sections_bad b
  unfolding sections_bad type_len
  sections_bad-multiple e h =
      sym (or_left _ (or_left _ (or_right (differ (type_off b) 0) (differ-other _ _ (λ z. h (ap (λ (x : ℕ). x % 4) e ∙ z))))))

  pub sections_bad-apart : {v w : ℕ} → v ≡ word_at (order_of b) b 16 → w ≡ word_at (order_of b) b 12 → (v ≡ w → ⊥) → true ≡ sections_bad b
  unfolding sections_bad type_len str_off
  sections_bad-apart d e h = sym (or_left _ (or_right (differ (type_off b) 0 || differ (type_len b % 4) 0) (differ-other _ _ (λ z. h (d ∙ z ∙ sym e)))))

  pub sections_bad-sum : {u v w x : ℕ} → u ≡ word_at (order_of b) b 8 → v ≡ word_at (order_of b) b 12 → w ≡ word_at (order_of b) b 16 → x ≡ word_at (order_of b) b 20
      → u ≡ 0 → v % 4 ≡ 0 → w ≡ v → differ (24 + v + x) (length b) ≡ sections_bad b
  unfolding sections_bad type_off type_len str_off str_len
  sections_bad-sum {u} {v} {w} {x} d e f g h₀ h₄ same =
      rw (← d, ← e, ← f, ← g) (rw (eq-eqb u 0 h₀, eq-eqb (v % 4) 0 h₄, eq-eqb w v same) refl)

  -- ── report 5, from the words and bytes that are read ──

  strings_in-first : get_or (strings_in b) 0 0 ≡ get_or b (24 + word_at (order_of b) b 12) 0
  unfolding strings_in type_len
  strings_in-first = get_or-drop (24 + word_at (order_of b) b 12) b 0 0 ∙ ap (λ (i : ℕ). get_or b i 0) (add-zero (24 + word_at (order_of b) b 12))

  pub strings_bad-empty : {n : ℕ} → n ≡ word_at (order_of b) b 20 → n ≡ 0 → true ≡ strings_bad b
  unfolding strings_bad str_len
  strings_bad-empty e z = sym (or_left _ (or_left _ (eq-eqb _ _ (sym e ∙ z))))

  pub strings_bad-first : {m x : ℕ} → m ≡ word_at (order_of b) b 12 → x ≡ get_or b (24 + m) 0 → (x ≡ 0 → ⊥) → true ≡ strings_bad b
  unfolding strings_bad
  strings_bad-first {m} {x} e d h =
      let at : x ≡ get_or (strings_in b) 0 0 = d ∙ ap (λ (i : ℕ). get_or b (24 + i) 0) e ∙ sym strings_in-first in
      sym (or_left _ (or_right (eqb (str_len b) 0) (differ-other _ _ (λ z. h (at ∙ z)))))

  -- with a first byte that is zero, the last decides
  pub strings_bad-last : {m n x : ℕ} → n ≡ word_at (order_of b) b 20 → m ≡ word_at (order_of b) b 12 → x ≡ get_or b (24 + m) 0
      → (n ≡ 0 → ⊥) → x ≡ 0 → end_bad b ≡ strings_bad b
  unfolding strings_bad end_bad str_len
  strings_bad-last {m} {n} {x} f e d h z =
      let first : get_or (strings_in b) 0 0 ≡ 0 = strings_in-first ∙ ap (λ (i : ℕ). get_or b (24 + i) 0) (sym e) ∙ sym d ∙ z in
      rw (eq-eqb _ _ first, ← f, ne_eqb n 0 h) refl

  pub end_bad-empty : {n : ℕ} → n ≡ word_at (order_of b) b 20 → n ≡ 0 → false ≡ end_bad b
  unfolding end_bad str_len
  end_bad-empty {n} f z = rw (← f, eq-eqb n 0 z) refl

  pub end_bad-last : {m n y : ℕ} → m ≡ word_at (order_of b) b 12 → n ≡ word_at (order_of b) b 20 → y ≡ get_or b (24 + m + (n - 1)) 0
      → (n ≡ 0 → ⊥) → differ y 0 ≡ end_bad b
  unfolding end_bad strings_in type_len str_len
  end_bad-last {m} {n} {y} e f g h = rw (← f, ← e, ne_eqb n 0 h, get_or-drop, ← g) refl

-- ── the smallest report ──

module _ (one five : Bool) (b : List ℕ) where
  pub due-length : one ≡ true → naming 0 (report_by one five b) ≡ some (report 1 0)
  unfolding report_by
  due-length e = simp e

  module _ (e₁ : one ≡ false) where
    pub due-opening : opening_bad b ≡ true → naming 0 (report_by one five b) ≡ some (report 2 0)
    unfolding report_by
    due-opening e = simp (e₁, e)

    module _ (e₂ : opening_bad b ≡ false) where
      pub due-header : header_length_bad b ≡ true → naming 0 (report_by one five b) ≡ some (report 3 0)
      unfolding report_by
      due-header e = simp (e₁, e₂, e)

      module _ (e₃ : header_length_bad b ≡ false) where
        pub due-sections : sections_bad b ≡ true → naming 0 (report_by one five b) ≡ some (report 4 0)
        unfolding report_by
        due-sections e = simp (e₁, e₂, e₃, e)

        module _ (e₄ : sections_bad b ≡ false) where
          pub due-strings : five ≡ true → naming 0 (report_by one five b) ≡ some (report 5 0)
          unfolding report_by
          due-strings e = simp (e₁, e₂, e₃, e₄, e)

          pub due-none : five ≡ false → report_by one five b ≡ none
          unfolding report_by
          due-none e = simp (e₁, e₂, e₃, e₄, e)
