-- What the looks at a name's bytes are promised to answer, in the paper's words.
use Rattle.std.specs.Prelude.{ℕ, ◌+◌, ◌-◌, ◌/◌, ◌%◌, ◌^◌, ◌<◌, ◌≤◌, ◌≡◌, Bool, true, false, not, cond, ◌&&◌, ◌||◌, List, eqb, leb, ltb, length, get_or, None, Option as RustOption, Some}
use Rattle.std.proofs.Math.Option.{Option, none, some}
use Rattle.paper.specs.rules.Choice.{every}
use Rattle.paper.specs.rules.Name.{until_zero, is_digit, is_letter}

-- a byte is of a set: four words, of a bit for each byte
unfoldable pub among : List ℕ → ℕ → Bool
among set c = eqb (get_or set (c / 64) 0 / 2 ^ (c % 64) % 2) 1

-- a byte of an identifier, as its definition says it
abbrev pub identifier_byte : ℕ → Bool
identifier_byte c = is_letter c || is_digit c

-- a set that a name may be made of: every byte of an identifier is of it, and the zero byte is not
pub record Names (set : List ℕ) : Type 0 where
  pub no_zero : among set 0 ≡ false
  pub words : (c : ℕ) → identifier_byte c ≡ true → among set c ≡ true

-- up to the first zero byte: at most so many bytes, and each passes a test
unfoldable pub runs : (ℕ → Bool) → ℕ → List ℕ → Bool
runs f most cs = every f (until_zero cs) && leb (length (until_zero cs)) most

-- and how many they are
unfoldable pub run_length : (ℕ → Bool) → ℕ → List ℕ → Option ℕ
run_length f most cs = cond (runs f most cs) (some (length (until_zero cs))) none

abbrev pub spelt_as_paper : RustOption ℕ → Option ℕ
spelt_as_paper (Some n) = some n
spelt_as_paper None = none

-- every byte from a place up to another passes a test
pub record Passing (f : ℕ → Bool) (s : List ℕ) (from to : ℕ) : Type 0 where
  pub starts : from ≤ to
  pub ends : to ≤ length s
  pub each : (j : ℕ) → from ≤ j → j < to → f (get_or s j 0) ≡ true

-- the same of an identifier's bytes, where an answer says so
pub record Surely (s : List ℕ) (from to : ℕ) (r : Bool) : Type 0 where
  pub passing : r ≡ true → Passing identifier_byte s from to

-- a run of a set's bytes from an offset on is begun: so far they pass
pub record Begun (set s : List ℕ) (from at : ℕ) : Type 0 where
  pub offset : from < 4294967296
  pub short : at ≤ from + 127
  pub names : Names set
  pub passing : Passing (among set) s from at

-- so far they pass, no further than a bound, and below the bound the next byte does not
pub record Past (f : ℕ → Bool) (s : List ℕ) (from bound to : ℕ) : Type 0 where
  pub passing : Passing f s from to
  pub within : to ≤ bound
  pub stops : to < bound → to < length s → f (get_or s to 0) ≡ false

-- the lower of two numbers
pub record Lower (a b r : ℕ) : Type 0 where
  pub left : r ≤ a
  pub right : r ≤ b
  pub most : (k : ℕ) → k ≤ a → k ≤ b → k ≤ r

-- a run from a place that was left at another: it ends there, or before a zero byte, or is none
unfoldable pub left_at : List ℕ → ℕ → ℕ → Option ℕ
left_at s from i = cond (ltb i (length s) && not (eqb (get_or s i 0) 0)) none (some (i - from))
