-- How a name and a file's name stand in a line: bare where they are of plain bytes, else between quotes; and how a text between
-- quotes is read.
use Rattle.std.specs.Prelude.{ℕ, ◌+◌, ◌*◌, ◌-◌, ◌≤◌, Bool, cond, not, ◌&&◌, ◌||◌, List, [], ◌∷◌, ◌++◌, ◌≡◌, eqb, leb, ltb, length}
use Rattle.paper.specs.rules.Choice.{every, is_empty}
use Rattle.paper.specs.rules.Name.{between}
use Rattle.paper.specs.terms.Put.{put}
use Rattle.quotes.specs.Escape.{escaped}

-- ── writing ──

unfoldable pub quoted : List ℕ → List ℕ
quoted s = 34 ∷ (escaped s ++ (34 ∷ []))

-- bare, or between quotes
unfoldable pub text_of : Bool → List ℕ → List ℕ
text_of bare s = cond bare s (quoted s)

-- a byte that a file's name may have and stand bare: letters, digits and - . / @ _
unfoldable pub is_path_byte : ℕ → Bool
is_path_byte c = between 45 57 c || between 64 90 c || between 97 122 c || eqb c 95

unfoldable pub is_path : List ℕ → Bool
is_path s = not (is_empty s) && every is_path_byte s

-- the output has four bytes for each, as many as any byte can take, and two for the quotes
unfoldable pub fits : List ℕ → List ℕ → Bool
fits s out = leb (4 * length s + 2) (length out)

-- what an output of any length has afterwards: where it may be too short, what it had
pub record TextIn (bare : Bool) (s before : List ℕ) (r : ℕ) (after : List ℕ) : Type 0 where
  pub within : r ≤ length before
  pub count : r ≡ cond (fits s before) (length (text_of bare s)) 0
  pub bytes : after ≡ cond (fits s before) (put before 0 (text_of bare s)) before

-- the output begins with the bytes between quotes, and what is past them is as it was
pub record Quoted (s before : List ℕ) (r : ℕ) (after : List ℕ) : Type 0 where
  pub within : r ≤ length before
  pub count : r ≡ length (quoted s)
  pub bytes : after ≡ put before 0 (quoted s)

-- ── reading ──

-- what a text behind its first quote says, and what stands behind its last
pub record Said : Type 0 where
  pub name : List ℕ
  pub rest : List ℕ

abbrev pub and_then : ℕ → Said → Said
and_then b r = record { name = b ∷ r.name; rest = r.rest }

-- the value of a digit of sixteen
unfoldable pub digit_value : ℕ → ℕ
digit_value c = cond (ltb c 58) (c - 48) (c - 87)

-- where a reader stands: between bytes, behind a backslash, behind \x, behind \x and a digit
pub data Reader : Type 0 where
  plain : Reader
  slash : Reader
  upper : Reader
  lower : ℕ → Reader

-- from left to right: a backslash takes what follows it, a bare quote ends
unfoldable pub said : List ℕ → Reader → Said
said [] r = record { name = []; rest = [] }
said (c ∷ s) plain = cond (eqb c 34) (record { name = []; rest = s }) (cond (eqb c 92) (said s slash) (and_then c (said s plain)))
said (c ∷ s) slash = cond (eqb c 120) (said s upper) (and_then c (said s plain))
said (c ∷ s) upper = said s (lower (digit_value c))
said (c ∷ s) (lower h) = and_then (16 * h + digit_value c) (said s plain)
