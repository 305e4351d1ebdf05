-- How many bytes of a section's record are handed out.
-- Assumes nothing.
use Prim.Native.Nat.{ℕ, ◌≤◌}
use mathlib.Core.List.{List}
use mathlib.Core.Option.{Option, none, some}
use native.Mathlib.Omega.{arith}
use lib.ListN.{length, length-take, drop}
use Rattle.exts.specs.Entries.{entry_bytes}
use Rattle.exts.specs.Items.{Entry}
use Rattle.exts.specs.Sorts.{least_size}
use Rattle.exts.specs.declared.Sort.{Sort}
use Rattle.exts.specs.declared.Sort.TheVariants.{Function, Line, Relocation}

least_size-most : (sort : Sort) → least_size sort ≤ 16
least_size-most Function = omega arith
least_size-most Line = omega arith
least_size-most Relocation = omega arith

-- 16 at most
pub entry_bytes-most : (s : List ℕ) (o : Option Entry) → length (entry_bytes s o) ≤ 16
entry_bytes-most s none = omega arith
entry_bytes-most s (some e) = omega (arith, length-take (least_size e.sort) (drop e.place s), least_size-most e.sort)
