-- What the totals are once a field is taken: one type more, and its bytes. Of 64 bits, as `usize` is added.
use Rattle.std.specs.Prelude.{ℕ, ◌+◌, ◌%◌}
use Rattle.totals.specs.declared.Totals.{Totals}

unfoldable pub later : Totals → ℕ → Totals
later t n = record { types = (t.types + 1) % 18446744073709551616; bytes = (t.bytes + n) % 18446744073709551616 }
