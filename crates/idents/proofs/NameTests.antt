-- Laws of identifiers and section names: by the first byte, and by the run from it.
-- Assumes nothing.
use Prim.Native.Nat.{ℕ, suc, ◌<◌, ◌≤◌}
use mathlib.Core.Path.{◌≡◌, refl, sym, ap, ◌∙◌}
use mathlib.Core.Bool.{Bool, true, false, not, cond, ◌&&◌, ◌||◌}
use mathlib.Core.List.{List, [], ◌∷◌}
use mathlib.Core.Option.{Option, none, some}
use native.Mathlib.Omega.{arith}
use borrow.Author.Tests.{eq-eqb, ne_eqb, eqb-true, eqb-false, le-leb, lt-leb}
use lib.Dec.{eqb, leb}
use lib.ListN.{length, get_or, drop, drop_of_length-le}
use lib.Seq.{drop-cons}
use Rattle.paper.proofs.basics.Choices.{or_nothing}
use Rattle.paper.specs.rules.Choice.{every, is_empty, is_some}
use Rattle.paper.specs.rules.Name.{until_zero, name_in, between, is_digit, is_letter, identifier_length, is_section_name}
use Rattle.idents.specs.Spelling.{identifier_byte, runs, run_length}
use Rattle.idents.proofs.Runs.{run_length-runs}
use Rattle.idents.proofs.Sets.{between-past}

and-swap : (a b : Bool) → a && b ≡ b && a
and-swap true true = refl
and-swap true false = refl
and-swap false true = refl
and-swap false false = refl

-- ── a first byte: the letters lie from 64 on, the digits below ──

letter-low : (c : ℕ) → c < 64 → is_letter c ≡ false
unfolding is_letter
letter-low c h = rw (lt-leb 65 c (omega arith), lt-leb 97 c (omega arith)) (ne_eqb c 95 (λ e. omega arith))

word-high : (c : ℕ) → 64 ≤ c → identifier_byte c ≡ is_letter c
unfolding is_digit
word-high c h = ap (λ (t : Bool). is_letter c || t) (between-past 48 57 c (omega arith)) ∙ or_nothing (is_letter c)

-- how long an identifier is, by the bytes behind its first and whether that is a letter
abbrev length_by : List ℕ → Bool → Option ℕ
length_by cs letter = cond (letter && every identifier_byte cs && leb (suc (length cs)) 127) (some (suc (length cs))) none

-- ── a name ──

module _ (s : List ℕ) (off : ℕ) where
  -- past the strings stands no name
  name_in-outside : length s ≤ off → name_in s off ≡ []
  unfolding name_in
  name_in-outside h = ap until_zero (drop_of_length-le s h)

  pub identifier-outside : length s ≤ off → none ≡ identifier_length (name_in s off)
  identifier-outside h = sym (ap identifier_length (name_in-outside h))

  pub section-outside : length s ≤ off → false ≡ is_section_name (name_in s off)
  unfolding is_section_name
  section-outside h = sym (ap is_section_name (name_in-outside h))

  module _ (inside : off < length s) where
    -- a zero byte names nothing
    name_in-nothing : get_or s off 0 ≡ 0 → name_in s off ≡ []
    unfolding name_in
    name_in-nothing e = ap until_zero (drop-cons s off 0 inside) ∙ ap (λ (t : Bool). cond t [] (get_or s off 0 ∷ until_zero (drop (suc off) s))) (eq-eqb _ 0 e)

    -- any other is the first byte of the name
    name_in-first : (get_or s off 0 ≡ 0 → ⊥) → name_in s off ≡ get_or s off 0 ∷ until_zero (drop (suc off) s)
    unfolding name_in
    name_in-first n = ap until_zero (drop-cons s off 0 inside) ∙ ap (λ (t : Bool). cond t [] (get_or s off 0 ∷ until_zero (drop (suc off) s))) (ne_eqb _ 0 n)

    pub non_empty-first : not (eqb (get_or s off 0) 0) ≡ not (is_empty (name_in s off))
    non_empty-first = go (eqb (get_or s off 0) 0) refl
      where
        go : (t : Bool) → eqb (get_or s off 0) 0 ≡ t → not t ≡ not (is_empty (name_in s off))
        go true e = sym (ap (λ (cs : List ℕ). not (is_empty cs)) (name_in-nothing (eqb-true (get_or s off 0) 0 e)))
        go false e = sym (ap (λ (cs : List ℕ). not (is_empty cs)) (name_in-first (eqb-false (get_or s off 0) 0 e)))

    -- an identifier's first byte is from 64 on
    pub identifier-bad : get_or s off 0 < 64 → none ≡ identifier_length (name_in s off)
    identifier-bad h = go (eqb (get_or s off 0) 0) refl
      where
        go : (z : Bool) → eqb (get_or s off 0) 0 ≡ z → none ≡ identifier_length (name_in s off)
        go true z = sym (ap identifier_length (name_in-nothing (eqb-true (get_or s off 0) 0 z)))
        go false z =
            sym (ap identifier_length (name_in-first (eqb-false (get_or s off 0) 0 z))
            ∙ ap (length_by (until_zero (drop (suc off) s))) (letter-low (get_or s off 0) h))

    pub identifier-run : 64 ≤ get_or s off 0 → {o : Option ℕ} → o ≡ run_length identifier_byte 127 (drop off s) → o ≡ identifier_length (name_in s off)
    unfolding runs run_length name_in
    identifier-run h d =
        let first = name_in-first (λ z. omega arith) in
        d
        ∙ ap (λ (cs : List ℕ). cond (every identifier_byte cs && leb (length cs) 127) (some (length cs)) none) first
        ∙ ap (length_by (until_zero (drop (suc off) s))) (word-high (get_or s off 0) h)
        ∙ sym (ap identifier_length first)

    -- a section name has a first byte
    pub section-bad : get_or s off 0 ≡ 0 → false ≡ is_section_name (name_in s off)
    unfolding is_section_name
    section-bad e = sym (ap is_section_name (name_in-nothing e))

    pub section-run : (get_or s off 0 ≡ 0 → ⊥) → {o : Option ℕ} → o ≡ run_length (between 33 126) 127 (drop off s) → is_some o ≡ is_section_name (name_in s off)
    unfolding runs is_section_name name_in
    section-run n d =
        ap is_some d
        ∙ run_length-runs (between 33 126) 127 (drop off s)
        ∙ and-swap (every (between 33 126) (name_in s off)) (leb (length (name_in s off)) 127)
        ∙ ap (λ (b : Bool). b && leb (length (name_in s off)) 127 && every (between 33 126) (name_in s off)) (sym filled)
      where
        filled : leb 1 (length (name_in s off)) ≡ true
        filled = ap (λ (cs : List ℕ). leb 1 (length cs)) (name_in-first n) ∙ le-leb 1 (suc (length (until_zero (drop (suc off) s)))) (omega arith)
