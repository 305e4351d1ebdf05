-- A member's span in five places of 32 bits: what a program keeps between asking for it and reading records.
use Rattle.std.specs.Prelude.{ℕ, ◌+◌, ◌*◌, ◌%◌, cond, List, [], ◌∷◌, get_or}
use Rattle.paper.specs.rules.Answer.{Answer}
use Rattle.paper.specs.rules.Choice.{member}
use Rattle.values.specs.Given.{Finding}

-- the number, the size of the type, the low word of the first bit, the bits; the first bit's high word is the fifth
abbrev pub found_numbers : Finding → Answer
found_numbers f = record { number = f.number; inner = f.size; t = f.from % 4294967296; p = f.bits }

-- a number that no span has stands for a member without a value
abbrev pub known_number : ℕ → ℕ
known_number n = cond (member n (0 ∷ 1 ∷ 35 ∷ 21 ∷ 31 ∷ 32 ∷ [])) n 33

-- the span that places hold; a place that is not there is 0
unfoldable pub found_in : List ℕ → Finding
found_in s =
    record {
      number = known_number (get_or s 0 0);
      size = get_or s 1 0;
      from = get_or s 2 0 + 4294967296 * get_or s 4 0;
      bits = get_or s 3 0;
    }
