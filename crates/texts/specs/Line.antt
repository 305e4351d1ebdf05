-- Which part of a text a line is: a line ends before a newline (10) or with the text, and lines are counted from 0.
use Rattle.std.specs.Prelude.{ℕ, zero, suc, ◌+◌, ◌-◌, ◌≤◌, cond, List, [], ◌∷◌, ◌≡◌, eqb, length, drop}
use Rattle.std.specs.Borrow.{Bor}

unfoldable pub first_line : List ℕ → List ℕ
first_line [] = []
first_line (c ∷ s) = cond (eqb c 10) [] (c ∷ first_line s)

-- what is behind the first line and its newline
unfoldable pub after_line : List ℕ → List ℕ
after_line [] = []
after_line (c ∷ s) = cond (eqb c 10) s (after_line s)

-- what is behind so many lines
unfoldable pub after_lines : ℕ → List ℕ → List ℕ
after_lines zero s = s
after_lines (suc k) s = after_lines k (after_line s)

-- where the line that a place stands in ends
pub record EndOf (s : List ℕ) (from r : ℕ) : Type 0 where
  pub inside : r ≤ length s
  pub ends : r ≡ from + length (first_line (drop from s))

-- where a line begins
pub record StartOf (s : List ℕ) (k r : ℕ) : Type 0 where
  pub inside : r ≤ length s
  pub rest : drop r s ≡ after_lines k s

-- a reference to a line of a lent text: its bytes, and the very place in the text that it points to
pub record LineOf (r s : Bor (List ℕ)) (k : ℕ) : Type 0 where
  pub bytes : r.now ≡ first_line (after_lines k s.now)
  pub place : r.ref_ptr ≡ (s.ref_ptr.0, length s.now - length (after_lines k s.now) + s.ref_ptr.1)
