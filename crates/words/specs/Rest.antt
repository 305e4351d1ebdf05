-- Which part of some bytes the rest from a place on is: none where the place is past the end, and that none stands at the first byte.
use Rattle.std.specs.Prelude.{ℕ, ◌+◌, ◌≡◌, cond, List, ltb, length, drop}
use Rattle.std.specs.Borrow.{Bor}

unfoldable pub rest_start : List ℕ → ℕ → ℕ
rest_start s at = cond (ltb (length s) at) 0 at

-- a reference to the rest of lent bytes: its bytes, and the very place that it points to
pub record RestOf (r s : Bor (List ℕ)) (at : ℕ) : Type 0 where
  pub bytes : r.now ≡ drop at s.now
  pub place : r.ref_ptr ≡ (s.ref_ptr.0, rest_start s.now at + s.ref_ptr.1)
