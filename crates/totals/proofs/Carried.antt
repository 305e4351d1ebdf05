-- The totals from their two sums, and that they are plain sums wherever those fit in 64 bits: nothing is lost as long as a list's bytes can be counted at all.
use Rattle.std.proofs.Common.{◌≡◌, ℕ, ◌+◌, ◌%◌, ◌<◌, arith}
use Rattle.totals.specs.declared.Totals.{Totals}
use Rattle.totals.specs.Running.{later}

-- both sums together are the record
pub later-made : (t : Totals) (n : ℕ) {a b : ℕ} → a ≡ (t.types + 1) % 18446744073709551616 → b ≡ (t.bytes + n) % 18446744073709551616 → record { types = a; bytes = b } ≡ later t n
unfolding later
later-made t n p q = λ i. record { types = p i; bytes = q i }

-- a sum that fits is not wrapped
plain : (a : ℕ) → a < 18446744073709551616 → a % 18446744073709551616 ≡ a
plain a fits = omega arith

pub later-plain : (t : Totals) (n : ℕ) → t.types + 1 < 18446744073709551616 → t.bytes + n < 18446744073709551616 → ((later t n).types ≡ t.types + 1) × ((later t n).bytes ≡ t.bytes + n)
unfolding later
later-plain t n types_fit bytes_fit = (plain (t.types + 1) types_fit, plain (t.bytes + n) bytes_fit)
