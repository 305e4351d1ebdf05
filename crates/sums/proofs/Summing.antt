-- Laws of `Sum`: how far a sum has come in a slice of bytes, and in a slice of places.
-- Assumes nothing.
use Prim.Native.Nat.{ℕ, suc, ◌+◌, ◌-◌, ◌<◌}
use mathlib.Core.Path.{◌≡◌, refl, sym, ap, ◌∙◌}
use mathlib.Core.List.{List, [], ◌∷◌, ◌++◌}
use native.Mathlib.Omega.{arith}
use Rattle.paper.specs.declared.Order.TheVariants.{LowFirst}
use Rattle.paper.specs.rules.Word.{word_bytes, bytes_of_words}
use Rattle.sums.specs.Sum.{after_byte, sum_from, sum_of, lent_bytes, lent_places}

-- a sum, and the sum that it comes to with the bytes that are left
pub record Summing (all : ℕ) (sum : ℕ) (left : List ℕ) : Type 0 where
  pub small : sum < 4294967291
  pub comes : sum_from sum left ≡ all

pub summing-from : {sum : ℕ} (s : List ℕ) → sum < 4294967291 → Summing (sum_from sum s) sum s
summing-from s small = record { small = small; comes = refl }

pub summing_start : (s : List ℕ) → Summing (sum_of s) 1 s
unfolding sum_of
summing_start s = summing-from s (omega arith)

-- the sum of two slices goes on from the first's
pub sum_both : (s t : List ℕ) {sum both : ℕ} → sum ≡ sum_from 1 s → both ≡ sum_from sum t → both ≡ sum_of (s ++ t)
unfolding sum_of
sum_both s t e f = f ∙ ap (λ (sum : ℕ). sum_from sum t) e ∙ sym (go 1 s)
  where
    go : (sum : ℕ) (s : List ℕ) → sum_from sum (s ++ t) ≡ sum_from (sum_from sum s) t
    go sum [] = refl
    go sum (byte ∷ s) = go (after_byte sum byte) s

-- ── what is lent and not touched ──

-- so many of n bytes are passed, and one of them
pub summing-lent : {all sum next n k : ℕ} → k < n → Summing all sum (lent_bytes (n - k)) → next < 4294967291 → next ≡ after_byte sum 165
    → Summing all next (lent_bytes (n - (k + 1)))
summing-lent {sum = sum} {n = n} {k = k} some g small e =
    let more : n - k ≡ suc (n - (k + 1)) = omega arith in
    record { small = small; comes = rw e (rw more at g.comes) }

-- and so many places
pub summing-lent-place : {all sum next n k : ℕ} → k < n → Summing all sum (bytes_of_words LowFirst (lent_places (n - k))) → next < 4294967291
    → next ≡ sum_from sum (word_bytes LowFirst 4294967295)
    → Summing all next (bytes_of_words LowFirst (lent_places (n - (k + 1))))
summing-lent-place {sum = sum} {n = n} {k = k} some g small e =
    let more : n - k ≡ suc (n - (k + 1)) = omega arith in
    record { small = small; comes = rw e (rw more at g.comes) }
