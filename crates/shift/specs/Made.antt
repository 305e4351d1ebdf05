-- The header of a blob that is made of another's records and strings.
use Rattle.std.specs.Prelude.{ℕ, cond, ◌&&◌, List, [], ◌∷◌, ◌++◌, leb, length, take}
use Rattle.paper.specs.declared.Order.{Order}
use Rattle.paper.specs.rules.Word.{bytes_of_words}
use Rattle.paper.specs.terms.Put.{put}

-- the other's first twelve bytes, and the lengths of both sections
abbrev pub made_header : Order → List ℕ → ℕ → ℕ → List ℕ
made_header order a types strings = take 12 a ++ bytes_of_words order (types ∷ types ∷ strings ∷ [])

-- at the front of an output that has room for it
unfoldable pub header_over : Order → List ℕ → ℕ → ℕ → List ℕ → List ℕ
header_over order a types strings out = cond (leb 12 (length a) && leb 24 (length out)) (put out 0 (made_header order a types strings)) out
