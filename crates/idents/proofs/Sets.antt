-- Laws of `among`: a set is a test of the paper's, by computing both at every byte.
-- Assumes nothing.
use Prim.Native.Nat.{ℕ, zero, suc, ◌/◌, ◌%◌, ◌^◌, ◌<◌, ◌≤◌}
use mathlib.Core.Path.{◌≡◌, refl, sym, ap, ◌∙◌}
use mathlib.Core.Bool.{Bool, true, false, not, ◌&&◌, ◌||◌, false≢true}
use mathlib.Core.Option.{Option}
use mathlib.Core.List.{List}
use native.Mathlib.Nat.{zero-div, not-suc-le-zero}
use native.Mathlib.Omega.{arith}
use borrow.Author.Tests.{ne_eqb, lt-leb, eqb-true, eqb-false, leb-true, leb-false, not-true}
use lib.Bits.{bit_or}
use lib.Dec.{eqb, leb}
use lib.ListN.{length, get_or-eq_default}
use Rattle.paper.proofs.basics.Choices.{and_left, and_right, and-false}
use Rattle.paper.specs.rules.Name.{between, is_digit, is_letter}
use Rattle.idents.specs.Spelling.{Names, among, identifier_byte, run_length}

-- ── every byte ──

abbrev agree : Bool → Bool → Bool
agree true b = b
agree false b = not b

agree-is : (a b : Bool) → agree a b ≡ true → a ≡ b
agree-is true true e = refl
agree-is true false e = sym e
agree-is false true e = e
agree-is false false e = refl

abbrev below : (ℕ → Bool) → ℕ → Bool
below f zero = true
below f (suc n) = f n && below f n

below_at : (f : ℕ → Bool) (n : ℕ) → below f n ≡ true → (c : ℕ) → c < n → f c ≡ true
below_at f zero e c h = absurd (not-suc-le-zero h)
below_at f (suc n) e c h = go (eqb c n) refl (below_at f n (and_right (f n) (below f n) e) c)
  where
    go : (t : Bool) → eqb c n ≡ t → (c < n → f c ≡ true) → f c ≡ true
    go true same before = ap f (eqb-true c n same) ∙ and_left (f n) (below f n) e
    go false other before = let differ = eqb-false c n other in before (omega arith)

-- the four words have the bits of a test
abbrev pub Bits : List ℕ → (ℕ → Bool) → Type 0
Bits set f = leb (length set) 4 && below (λ (c : ℕ). agree (among set c) (f c)) 256 ≡ true

-- what the code compares instead: the bit of 32 makes a letter small
abbrev compared : ℕ → Bool
compared c = (leb 97 (bit_or c 32) && leb (bit_or c 32) 122) || (leb 48 c && leb c 57) || eqb c 95

pub compared_is : (c : ℕ) → c < 256 → compared c ≡ identifier_byte c
unfolding is_letter is_digit
compared_is c h = agree-is (compared c) (identifier_byte c) (below_at (λ (d : ℕ). agree (compared d) (identifier_byte d)) 256 refl c h)

-- ── no number above a byte ──

among-past : (set : List ℕ) (c : ℕ) → length set ≤ 4 → 256 ≤ c → among set c ≡ false
unfolding among
among-past set c few h =
    ap (λ (word : ℕ). eqb (word / 2 ^ (c % 64) % 2) 1) (get_or-eq_default set 0 past)
    ∙ ap (λ (q : ℕ). eqb (q % 2) 1) (zero-div (2 ^ (c % 64)))
  where
    past : length set ≤ c / 64
    past = omega arith

pub between-past : (low high c : ℕ) → high < c → between low high c ≡ false
between-past low high c h = ap (λ (t : Bool). leb low c && t) (lt-leb c high h) ∙ and-false (leb low c)

word-past : (c : ℕ) → 256 ≤ c → identifier_byte c ≡ false
unfolding is_letter is_digit
word-past c h =
    rw (between-past 65 90 c (omega arith), between-past 97 122 c (omega arith), ne_eqb c 95 (λ e. omega arith))
    (between-past 48 57 c (omega arith))

print-past : (c : ℕ) → 256 ≤ c → between 33 126 c ≡ false
print-past c h = between-past 33 126 c (omega arith)

-- ── a set that a name may be made of ──

abbrev covers : List ℕ → ℕ → Bool
covers set c = not (identifier_byte c) || among set c

abbrev pub Covers : List ℕ → Type 0
Covers set = not (among set 0) && below (covers set) 256 ≡ true

pub covers-names : (set : List ℕ) → Covers set → Names set
covers-names set e =
    record {
      no_zero = not-true (among set 0) (and_left (not (among set 0)) (below (covers set) 256) e);
      words = λ c is. go c is (leb 256 c) refl;
    }
  where
    go : (c : ℕ) → identifier_byte c ≡ true → (t : Bool) → leb 256 c ≡ t → among set c ≡ true
    go c is true l = absurd (false≢true (sym (word-past c (leb-true 256 c l)) ∙ is))
    go c is false l =
        ap (λ (b : Bool). not b || among set c) (sym is)
        ∙ below_at (covers set) 256 (and_right (not (among set 0)) (below (covers set) 256) e) c (leb-false 256 c l)

-- ── a set is a test ──

among-is : (set : List ℕ) {f : ℕ → Bool} → ((c : ℕ) → 256 ≤ c → f c ≡ false) → Bits set f → (c : ℕ) → among set c ≡ f c
among-is set {f} past e c = go (leb 256 c) refl
  where
    both : ℕ → Bool
    both d = agree (among set d) (f d)

    go : (t : Bool) → leb 256 c ≡ t → among set c ≡ f c
    go true l =
        among-past set c (leb-true (length set) 4 (and_left (leb (length set) 4) (below both 256) e)) (leb-true 256 c l)
        ∙ sym (past c (leb-true 256 c l))
    go false l =
        agree-is (among set c) (f c) (below_at both 256 (and_right (leb (length set) 4) (below both 256) e) c (leb-false 256 c l))

module _ (set : List ℕ) (most : ℕ) (cs : List ℕ) {o : Option ℕ} (d : o ≡ run_length (among set) most cs) where
  pub run_length-word : Bits set identifier_byte → o ≡ run_length identifier_byte most cs
  run_length-word e = d ∙ (λ i. run_length (λ (c : ℕ). among-is set word-past e c i) most cs)

  pub run_length-print : Bits set (between 33 126) → o ≡ run_length (between 33 126) most cs
  run_length-print e = d ∙ (λ i. run_length (λ (c : ℕ). among-is set print-past e c i) most cs)
