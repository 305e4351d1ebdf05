-- Laws of `Decimal`: how far a number is read, and each way that a reading ends.
-- Assumes nothing.
use Prim.Native.Nat.{ℕ, ◌+◌, ◌*◌, ◌-◌, ◌<◌, ◌≤◌}
use mathlib.Core.Path.{◌≡◌, refl, sym, ap, ◌∙◌}
use mathlib.Core.Bool.{true, false}
use mathlib.Core.List.{List, [], ◌∷◌}
use native.Mathlib.Numerals.{add-one}
use native.Mathlib.Omega.{arith}
use borrow.Author.Tests.{lt-ltb, le-ltb, le-leb, lt-leb}
use lib.ListN.{length, get_or, drop}
use lib.Seq.{drop-cons, drop-length}
use Rattle.paper.proofs.basics.Choices.{and-false}
use Rattle.paper.specs.rules.Name.{is_digit}
use Rattle.texts.specs.Decimal.{are_digits, value_from, number_of}
use Rattle.std.specs.Prelude.{None, Some}

-- ── each way that a reading ends ──

pub number-empty : (s : List ℕ) → length s ≡ 0 → None ≡ number_of s
unfolding number_of are_digits
number-empty [] e = refl
number-empty (c ∷ s) e = absurd (omega (arith, e))

number-stray : (s : List ℕ) → are_digits s ≡ false → None ≡ number_of s
unfolding number_of
number-stray s e = rw e refl

number-large : (s : List ℕ) → 4294967296 ≤ value_from 0 s → None ≡ number_of s
unfolding number_of
number-large s h = rw (le-ltb _ _ h, and-false) refl

number_is : (s : List ℕ) → are_digits s ≡ true → 0 < length s → value_from 0 s < 4294967296 → Some (value_from 0 s) ≡ number_of s
unfolding number_of
number_is [] e k h = absurd (omega arith)
number_is (c ∷ s) e k h = rw (e, lt-ltb _ _ h) refl

-- a value never falls
value_from-grows : (v : ℕ) (s : List ℕ) → v ≤ value_from v s
unfolding value_from
value_from-grows v [] = omega arith
value_from-grows v (c ∷ s) = omega (arith, value_from-grows (v * 10 + (c - 48)) s)

-- ── how far a number is read ──

-- the digits so far have this value, and with those that are left it is the whole
pub record Reading (s : List ℕ) (value : ℕ) (i : ℕ) : Type 0 where
  pub some : 0 < length s
  pub inside : i ≤ length s
  pub small : value < 4294967296
  pub comes : value_from value (drop i s) ≡ value_from 0 s
  pub digits : are_digits (drop i s) ≡ are_digits s

pub reading-start : (s : List ℕ) → 0 < length s → Reading s 0 0
reading-start s h =
    record { some = h; inside = omega arith; small = omega arith; comes = refl; digits = refl }

module _ {s : List ℕ} {value i : ℕ} (g : Reading s value i) (h : i < length s) where
  -- a byte that is no digit
  stray : is_digit (get_or s i 0) ≡ false → None ≡ number_of s
  unfolding are_digits
  stray e =
      number-stray s (sym g.digits ∙ rw (drop-cons s i 0 h, e) refl)

  pub reading-low : get_or s i 0 < 48 → None ≡ number_of s
  unfolding is_digit
  reading-low k = stray (rw (lt-leb 48 (get_or s i 0) k) refl)

  pub reading-high : 48 ≤ get_or s i 0 → 57 < get_or s i 0 → None ≡ number_of s
  unfolding is_digit
  reading-high l k = stray (rw (le-leb 48 (get_or s i 0) l, lt-leb (get_or s i 0) 57 k) refl)

  -- the value with one digit more
  more : value_from (value * 10 + (get_or s i 0 - 48)) (drop (i + 1) s) ≡ value_from 0 s
  unfolding value_from
  more = rw add-one (rw (drop-cons s i 0 h) at g.comes)

  pub reading-large : 4294967295 < value * 10 + (get_or s i 0 - 48) → None ≡ number_of s
  reading-large k = number-large s (omega (arith, k, more, value_from-grows (value * 10 + (get_or s i 0 - 48)) (drop (i + 1) s)))

  pub reading-next : 48 ≤ get_or s i 0 → get_or s i 0 ≤ 57 → value * 10 + (get_or s i 0 - 48) ≤ 4294967295 → Reading s (value * 10 + (get_or s i 0 - 48)) (i + 1)
  unfolding are_digits is_digit
  reading-next l k v =
      record {
        some = g.some;
        inside = omega arith;
        small = omega arith;
        comes = more;
        digits = rw add-one (rw (drop-cons s i 0 h, le-leb 48 (get_or s i 0) l, le-leb (get_or s i 0) 57 k) at g.digits);
      }

pub reading-done : {s : List ℕ} {value i : ℕ} → Reading s value i → length s ≤ i → Some value ≡ number_of s
unfolding are_digits value_from
reading-done {s} {value} {i} g h =
    let all : i ≡ length s = omega (arith, g.inside) in
    let v : value ≡ value_from 0 s = rw (all, drop-length) at g.comes in
    let d : true ≡ are_digits s = rw (all, drop-length) at g.digits in
    ap Some v ∙ number_is s (sym d) g.some (omega (arith, v, g.small))
