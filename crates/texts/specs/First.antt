-- Which part of some bytes the first so many are: all where there are fewer, at the first byte.
use Rattle.std.specs.Prelude.{ℕ, ◌≡◌, List, take}
use Rattle.std.specs.Borrow.{Bor}

-- a reference to the first of lent bytes: its bytes, and the very place that it points to
pub record FirstOf (r s : Bor (List ℕ)) (n : ℕ) : Type 0 where
  pub bytes : r.now ≡ take n s.now
  pub place : r.ref_ptr ≡ s.ref_ptr
