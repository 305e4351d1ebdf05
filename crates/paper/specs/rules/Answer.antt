-- Every answer in the paper's numbers, and which numbers each case of each answer enum is. Promises speak through these.
use Rattle.paper.specs.declared.LeanError.TheVariants as leaned
use Rattle.paper.specs.declared.JoinError.TheVariants.{FirstRefused, OrdersDiffer, OutputShort, SecondRefused, TooLong, TooMany}
use Rattle.paper.specs.declared.JoinError.{JoinError}
use Rattle.paper.specs.declared.LeanError.{LeanError}
use Rattle.std.specs.Prelude.{ℕ, ◌+◌, Err, Ok, Result}
use Rattle.paper.specs.rules.Limits.{type_limit}
use Rattle.paper.specs.declared.Report.{Report}
use Rattle.paper.specs.declared.Report.TheVariants.{Length, Opening, HeaderLength, Sections, Strings, RecordCut, UnknownKind, ManyTypes, SlicesShort}
use Rattle.paper.specs.declared.Report.TheVariants.{Head, Named, Tail, Reference, Endless, Layout}
use Rattle.paper.specs.declared.Sized.{Sized}
use Rattle.paper.specs.declared.Sized.TheVariants.{Exact, NoSize, Overflow, Lost, TooFar}

-- the paper's number (0 where nothing is refused), the number of the report inside a join's refusal,
-- the type count or the type that is named, and the exact size, the joined length or the place of the record that is named
pub record Answer : Type 0 where
  pub number : ℕ
  pub inner : ℕ
  pub t : ℕ
  pub p : ℕ

-- "a byte place beside the type number" (order 9)
abbrev pub report_at : ℕ → ℕ → ℕ → Answer
report_at number t p = record { number = number; inner = 0; t = t; p = p }

-- "otherwise 0"
abbrev pub report : ℕ → ℕ → Answer
report number t = report_at number t 0

abbrev pub accepted : ℕ → Answer
accepted n = report 0 n

abbrev pub value : ℕ → Answer
value p = record { number = 0; inner = 0; t = 0; p = p }

-- "A join's refusal carries the refused table's own report inside it for 16 and 17"
abbrev pub inside : ℕ → Answer → Answer
inside number a = record { number = number; inner = a.number; t = a.t; p = a.p }

unfoldable pub report_as_paper : Report → Answer
report_as_paper Length = report 1 0
report_as_paper Opening = report 2 0
report_as_paper HeaderLength = report 3 0
report_as_paper Sections = report 4 0
report_as_paper Strings = report 5 0
report_as_paper (RecordCut t p) = report_at 6 t.0 p.0
report_as_paper (UnknownKind t p) = report_at 7 t.0 p.0
report_as_paper (ManyTypes p) = report_at 8 (type_limit + 1) p.0
report_as_paper SlicesShort = report 9 0
report_as_paper (Head t p) = report_at 10 t.0 p.0
report_as_paper (Named t p) = report_at 11 t.0 p.0
report_as_paper (Tail t p) = report_at 12 t.0 p.0
report_as_paper (Reference t p) = report_at 13 t.0 p.0
report_as_paper (Endless t p) = report_at 14 t.0 p.0
report_as_paper (Layout t p) = report_at 15 t.0 p.0

unfoldable pub checked_as_paper : Result ℕ Report → Answer
checked_as_paper (Ok n) = accepted n
checked_as_paper (Err r) = report_as_paper r

-- an exact size is 0 with the size, no size is 1, overflow is 2
unfoldable pub sized_as_paper : Sized → Answer
sized_as_paper (Exact s) = value s
sized_as_paper NoSize = report 1 0
sized_as_paper Overflow = report 2 0
sized_as_paper Lost = report 21 0
sized_as_paper TooFar = report 22 0

unfoldable pub joined_as_paper : Result ℕ JoinError → Answer
joined_as_paper (Ok n) = value n
joined_as_paper (Err (FirstRefused r)) = inside 16 (report_as_paper r)
joined_as_paper (Err (SecondRefused r)) = inside 17 (report_as_paper r)
joined_as_paper (Err OrdersDiffer) = report 24 0
joined_as_paper (Err TooMany) = report 18 0
joined_as_paper (Err TooLong) = report 19 0
joined_as_paper (Err OutputShort) = report 20 0

-- "If the base is refused, answer 25 with its report inside"; 26, the two orders (order 7)
unfoldable pub leaned_as_paper : Result ℕ LeanError → Answer
leaned_as_paper (Ok n) = accepted n
leaned_as_paper (Err (leaned.BaseRefused r)) = inside 25 (report_as_paper r)
leaned_as_paper (Err leaned.OrdersDiffer) = report 26 0
leaned_as_paper (Err (leaned.Refused r)) = report_as_paper r
