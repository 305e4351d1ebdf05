-- What the functions promise that `value_of` stands on.
use Rattle.std.specs.Prelude.{ℕ, zero, suc, ◌*◌, ◌-◌, ◌/◌, ◌%◌, ◌^◌, Bool, cond, ◌&&◌, List, [], ◌∷◌, ◌≡◌, eqb, ℤ, pos, negsuc, take, drop}
use Rattle.std.proofs.Math.Option.{Option, none, some}
use Rattle.paper.specs.rules.Choice.{first_due}
use Rattle.values.specs.Given.{Finding, Given, found_rules, no_bytes, valued_answer, valued_number}
use Rattle.values.specs.Value.{record_bits, bits_number}
use Rattle.values.specs.declared.MemberValue.{MemberValue}
use Rattle.values.specs.declared.Valued.{Valued}

-- ── numbers for bits ──

-- the number of a record's bytes, low byte first
unfoldable pub record_number : List ℕ → ℕ
record_number s = bits_number (record_bits s)

-- the number of so many bits from a bit on
unfoldable pub number_at : ℕ → ℕ → List ℕ → ℕ
number_at from bits s = bits_number (take bits (drop from (record_bits s)))

-- ── a number of so many bits, with its top bit as sign ──

abbrev pub is_minus : ℕ → ℕ → Bool
is_minus bits n = eqb (n / 2 ^ (bits - 1)) 1

unfoldable pub signed_number : ℕ → ℕ → ℤ
signed_number bits n = cond (is_minus bits n) (negsuc (2 ^ bits - suc n)) (pos n)

-- filled up to 64 bits
unfoldable pub filled_number : Bool → ℕ → ℕ → ℕ
filled_number signed bits n = cond (signed && is_minus bits n) (2 ^ 64 - suc (2 ^ bits - suc n)) n

-- ── bytes ──

-- so many bytes of a number, from one on
abbrev pub bytes_from : ℕ → ℕ → ℕ → List ℕ
bytes_from zero i n = []
bytes_from (suc k) i n = n / 2 ^ (8 * i) % 256 ∷ bytes_from k (suc i) n

-- ── what the rules say ──

-- what is handed back with a refusal
abbrev pub refusal : Valued → MemberValue
refusal why = record { value = why; from = 0; bits = 0; bytes = no_bytes }

abbrev pub due_or : ℕ → Option ℕ → ℕ
due_or own none = own
due_or own (some number) = number

-- the number of the rule that is due for a record of so many bytes, or the member's own
unfoldable pub judged : Finding → ℕ → ℕ
judged f length = due_or f.number (first_due (found_rules f length))

-- the numbers of the rules
abbrev pub refusals : List ℕ
refusals = 21 ∷ 30 ∷ 31 ∷ 32 ∷ 33 ∷ 35 ∷ []

-- ── what is given ──

-- an answer and its value
pub record ValueOf (g : Given) (v : Valued) : Type 0 where
  pub answers : valued_answer v ≡ g.answer
  pub numbers : valued_number v ≡ g.value
