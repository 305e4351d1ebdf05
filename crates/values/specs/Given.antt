-- What is said of a member before there is a record and with one, in the paper's numbers, and which numbers the code's answers are.
use Rattle.std.specs.Prelude.{ℕ, zero, suc, ◌+◌, ◌*◌, Bool, not, cond, ◌&&◌, List, [], ◌∷◌, leb, ltb, eqb, ℤ, pos, length, take, drop, replicate}
use Rattle.paper.specs.rules.Answer.{Answer, report, inside, report_as_paper}
use Rattle.paper.specs.rules.Choice.{Rule, ◌when◌, first_due, member}
use Rattle.paper.specs.rules.Span.{Span}
use Rattle.values.specs.Value.{bits_number, value_of, filled_up, span_bits, Read, refused, reads, read_unless}
use Rattle.values.specs.declared.Sort.{Sort}
use Rattle.values.specs.declared.Sort.TheVariants.{Unsigned, Signed, HighFirst, NoType, NoStruct, NoMember, NoNumber}
use Rattle.values.specs.declared.MemberSpan.{MemberSpan}
use Rattle.values.specs.declared.Valued.{Valued}
use Rattle.values.specs.declared.MemberValue.{MemberValue}

-- ── before there is a record ──

-- 0 unsigned, 1 signed, else the refusal's number; the bytes of the type; the span
pub record Finding : Type 0 where
  pub number : ℕ
  pub size : ℕ
  pub from : ℕ
  pub bits : ℕ

unfoldable pub sort_number : Sort → ℕ
sort_number Unsigned = 0
sort_number Signed = 1
sort_number HighFirst = 35
sort_number NoType = 21
sort_number NoStruct = 31
sort_number NoMember = 32
sort_number NoNumber = 33

abbrev pub found_as_paper : MemberSpan → Finding
found_as_paper m = record { number = sort_number m.sort; size = m.size; from = m.from; bits = m.bits }

-- ── with one ──

-- the span that a member was found to have
abbrev pub found_span : Finding → Span
found_span f = record { from = f.from; size = f.bits }

-- 30 comes behind 31 and before 32 and 33; a span that is of no bits or of more than 128 is no number's, and one that ends behind the record asks for a longer record
abbrev pub found_rules : Finding → ℕ → List Rule
found_rules f length =
    f.number when member f.number (35 ∷ 21 ∷ 31 ∷ [])
    ∷ 30 when ltb length f.size
    ∷ f.number when member f.number (32 ∷ 33 ∷ [])
    ∷ 33 when not (leb 1 f.bits && leb f.bits 128)
    ∷ 30 when ltb (8 * length) (f.from + f.bits)
    ∷ []

unfoldable pub read_found : Finding → List ℕ → Read
read_found f s = read_unless (first_due (found_rules f (length s))) (reads (found_span f) (eqb f.number 1) (span_bits (found_span f) s))

-- ── the answer ──

-- the number (0 unsigned, 1 signed, 2 a longer span) and the report inside 34; the span; its value; the sixteen bytes
pub record Given : Type 0 where
  pub answer : Answer
  pub from : ℕ
  pub bits : ℕ
  pub value : ℤ
  pub bytes : List ℕ

-- bytes of eight bits each
abbrev pub bytes_in : ℕ → List ℕ → List ℕ
bytes_in zero xs = []
bytes_in (suc k) xs = bits_number (take 8 xs) ∷ bytes_in k (drop 8 xs)

abbrev pub no_bytes : List ℕ
no_bytes = replicate 16 0

abbrev pub refused_as : Answer → Given
refused_as a = record { answer = a; from = 0; bits = 0; value = pos 0; bytes = no_bytes }

-- "spans of 1 to 64 bits come as their exact values"; "A longer span .. is handed back as sixteen bytes, low byte first"
abbrev pub given_bits : Span → Bool → List ℕ → Given
given_bits p signed xs =
    cond (leb p.size 64)
    (record { answer = report (cond signed 1 0) 0; from = p.from; bits = p.size; value = value_of signed xs; bytes = no_bytes })
    (record { answer = report 2 0; from = p.from; bits = p.size; value = pos 0; bytes = bytes_in 16 (filled_up signed xs) })

unfoldable pub given : Read → Given
given (refused number) = refused_as (report number 0)
given (reads p signed xs) = given_bits p signed xs

unfoldable pub valued_answer : Valued → Answer
valued_answer (Valued.Unsigned n) = report 0 0
valued_answer (Valued.Signed z) = report 1 0
valued_answer Valued.Longer = report 2 0
valued_answer (Valued.TableRefused r) = inside 34 (report_as_paper r)
valued_answer Valued.HighFirst = report 35 0
valued_answer Valued.NoType = report 21 0
valued_answer Valued.NoStruct = report 31 0
valued_answer Valued.RecordShort = report 30 0
valued_answer Valued.NoMember = report 32 0
valued_answer Valued.NoNumber = report 33 0

unfoldable pub valued_number : Valued → ℤ
valued_number (Valued.Unsigned n) = pos n
valued_number (Valued.Signed z) = z
valued_number Valued.Longer = pos 0
valued_number (Valued.TableRefused r) = pos 0
valued_number Valued.HighFirst = pos 0
valued_number Valued.NoType = pos 0
valued_number Valued.NoStruct = pos 0
valued_number Valued.RecordShort = pos 0
valued_number Valued.NoMember = pos 0
valued_number Valued.NoNumber = pos 0

abbrev pub given_as_paper : MemberValue → Given
given_as_paper v = record { answer = valued_answer v.value; from = v.from; bits = v.bits; value = valued_number v.value; bytes = v.bytes }
