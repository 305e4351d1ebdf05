-- How bytes that others chose are shown: printable ASCII (32 to 126) as it is, a quote and a backslash behind a backslash, every
-- other byte as \xNN.
use Rattle.std.specs.Prelude.{ℕ, ◌+◌, ◌/◌, ◌%◌, ◌≤◌, Bool, cond, ◌&&◌, ◌||◌, List, [], ◌∷◌, ◌++◌, ◌≡◌, eqb, leb, ltb, length}
use Rattle.paper.specs.terms.Put.{put}

-- 0 to 9, then a to f
unfoldable pub hex_digit : ℕ → ℕ
hex_digit d = cond (ltb d 10) (48 + d) (87 + d)

unfoldable pub is_printable : ℕ → Bool
is_printable b = leb 32 b && leb b 126

-- the quote, which would end the text, and the backslash
unfoldable pub is_special : ℕ → Bool
is_special b = eqb b 34 || eqb b 92

unfoldable pub escaped_byte : ℕ → List ℕ
escaped_byte b =
    cond (is_special b) (92 ∷ b ∷ [])
    (cond (is_printable b) (b ∷ []) (92 ∷ 120 ∷ hex_digit (b / 16) ∷ hex_digit (b % 16) ∷ []))

unfoldable pub escaped : List ℕ → List ℕ
escaped [] = []
escaped (b ∷ s) = escaped_byte b ++ escaped s

-- a piece is put behind the first bytes of a slice, and what is past it is as it was
pub record Appended (before : List ℕ) (at : ℕ) (piece : List ℕ) (r : ℕ) (after : List ℕ) : Type 0 where
  pub end : r ≡ at + length piece
  pub room : r ≤ at + 4
  pub bytes : after ≡ put before at piece
