-- Bytes put over others at a place: what a function that writes into a lent slice leaves there.
use Rattle.std.specs.Prelude.{ℕ, ◌+◌, cond, List, ◌++◌, leb, length, take, drop}

unfoldable pub put : List ℕ → ℕ → List ℕ → List ℕ
put out p s = take p out ++ s ++ drop (p + length s) out

-- where they do not all fit behind the place, nothing is put
unfoldable pub laid : List ℕ → ℕ → List ℕ → List ℕ
laid out p s = cond (leb (p + length s) (length out)) (put out p s) out
