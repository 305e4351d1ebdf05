-- Laws of the name at an offset: it is no longer than the blob.
-- Assumes nothing.
use Prim.Native.Nat.{ℕ, ◌≤◌}
use mathlib.Core.List.{List}
use native.Mathlib.Omega.{arith}
use lib.ListN.{length}
use Rattle.paper.specs.rules.Name.{name_at}
use Rattle.header.proofs.Scans.{name_at-inside}

pub name_at-short : (b : List ℕ) (off : ℕ) → length (name_at b off) ≤ length b
name_at-short b off = omega (arith, name_at-inside b off)
