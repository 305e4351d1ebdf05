-- What is handed out of a member's answer, to test vectors and to C: its numbers, and the sixteen bytes of its value, however many bits it has.
use Rattle.std.specs.Prelude.{ℕ, suc, ◌-◌, ◌%◌, ◌^◌, cond, List, ◌++◌, leb, ltb, ℤ, pos, negsuc}
use Rattle.paper.specs.rules.Answer.{Answer}
use Rattle.values.specs.Given.{Given}
use Rattle.values.specs.Promised.{bytes_from}

-- sixteen bytes of an integer of 64 bits, low byte first: -(k + 1) is 2^64 less than its low eight, and its others are all ones
abbrev pub int_bytes : ℤ → List ℕ
int_bytes (pos n) = bytes_from 8 0 n ++ bytes_from 8 0 0
int_bytes (negsuc k) = bytes_from 8 0 (2 ^ 64 - suc k) ++ bytes_from 8 0 (2 ^ 64 - 1)

-- of a value of up to 64 bits its own, of a longer one those beside it
unfoldable pub sixteen_of : Given → List ℕ
sixteen_of g = cond (ltb g.answer.number 2) (int_bytes g.value) g.bytes

-- a number, and where there is a span its first bit, cut to a word, and its bits
abbrev pub span_numbers : ℕ → ℕ → ℕ → Answer
span_numbers number from bits = record { number = number; inner = 0; t = from % 4294967296; p = bits }

-- 0, 1 and 2 have a span; 34 has the report inside
unfoldable pub numbers_of : Given → Answer
numbers_of g = cond (leb g.answer.number 2) (span_numbers g.answer.number g.from g.bits) g.answer
