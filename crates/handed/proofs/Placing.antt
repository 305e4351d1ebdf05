-- Laws of a span in places, and that what is told of a span is the span again.
-- Assumes nothing.
use Prim.Native.Nat.{ℕ, ◌+◌, ◌*◌, ◌%◌}
use mathlib.Core.Path.{◌≡◌, refl}
use mathlib.Core.List.{List}
use borrow.Author.Tests.{ne_eqb}
use lib.ListN.{get_or}
use Rattle.handed.specs.Places.{found_numbers, known_number, found_in}
use Rattle.values.specs.Given.{sort_number, found_as_paper}
use Rattle.values.specs.declared.MemberSpan.{MemberSpan}

-- no number of a span
pub known-none : (n : ℕ) → (n ≡ 0 → ⊥) → (n ≡ 1 → ⊥) → (n ≡ 35 → ⊥) → (n ≡ 21 → ⊥) → (n ≡ 31 → ⊥) → (n ≡ 32 → ⊥) → 33 ≡ known_number n
known-none n a b c d e f = rw (ne_eqb n 0 a, ne_eqb n 1 b, ne_eqb n 35 c, ne_eqb n 21 d, ne_eqb n 31 e, ne_eqb n 32 f) refl

-- five places as they were read
pub found-places : (s : List ℕ) {number size low bits high : ℕ} → number ≡ known_number (get_or s 0 0) → size ≡ get_or s 1 0 → low ≡ get_or s 2 0
    → bits ≡ get_or s 3 0 → high ≡ get_or s 4 0 → record { number = number; size = size; from = low + 4294967296 * high; bits = bits } ≡ found_in s
unfolding found_in
found-places s n z l b h = λ i. record { number = n i; size = z i; from = l i + 4294967296 * h i; bits = b i }

-- a span's first four numbers, its sort's among them
pub found-numbers : (m : MemberSpan) {n : ℕ} → n ≡ sort_number m.sort
    → record { number = n; inner = m.size; t = m.from % 4294967296; p = m.bits } ≡ found_numbers (found_as_paper m)
found-numbers m e = λ i. record { number = e i; inner = m.size; t = m.from % 4294967296; p = m.bits }
