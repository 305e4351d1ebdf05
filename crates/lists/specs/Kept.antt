-- Order 10 of blobs and lent slices: a table written out into an output, and a list read back into one.
use Rattle.lists.specs.declared.MakeError.TheVariants as made
use Rattle.lists.specs.declared.WriteError.TheVariants.{OutputShort, Refused}
use Rattle.lists.specs.declared.WriteError.{WriteError}
use Rattle.lists.specs.declared.MakeError.{MakeError}
use Rattle.std.specs.Prelude.{ℕ, ◌||◌, List, [], ◌∷◌, ◌++◌, ltb, length, drop, Err, Ok, Result}
use Rattle.std.proofs.Math.Option.{Option, none, some}
use Rattle.lists.specs.List.{Listed, unread, table, list_of, read_list}
use Rattle.lists.specs.declared.Fault.{Fault}
use Rattle.lists.specs.declared.Fault.TheVariants.{UnknownTag, CutShort, OutOfPlace}
use Rattle.paper.specs.rules.Answer.{Answer, inside, report, report_as_paper, value}
use Rattle.paper.specs.rules.Choice.{◌when◌, first_due, or_else}
use Rattle.paper.specs.rules.Gate.{Outcome, gate, naming, refusal, zeros}
use Rattle.paper.specs.rules.Header.{order_of}
use Rattle.paper.specs.rules.Join.{refused_inside}
use Rattle.paper.specs.rules.Walk.{bytes_of, table_of}

-- ── writing ──

-- the list of the table that a blob holds
unfoldable pub list_in : List ℕ → List ℕ
list_in b = list_of (order_of b) (table_of b)

-- "Writing a list asks 54 first, then 53 for its output"
unfoldable pub write_refusal : List ℕ → ℕ → ℕ → ℕ → Option Answer
write_refusal b places work_places room =
    or_else (refused_inside 54 (refusal b places work_places)) (naming 0 (first_due (53 when ltb room (length (list_in b)) ∷ [])))

pub record WriteOutcome : Type 0 where
  pub answer : Answer
  pub output : List ℕ
  pub index : List ℕ
  pub work : List ℕ

-- "No refusal touches the output"; the u32 slices end as the check of the table leaves them
abbrev pub write_outcome : List ℕ → Outcome → List ℕ → Option Answer → WriteOutcome
write_outcome b checked out none =
    record { answer = value (length (list_in b)); output = list_in b ++ drop (length (list_in b)) out; index = checked.index; work = checked.work }
write_outcome b checked out (some a) = record { answer = a; output = out; index = checked.index; work = checked.work }

unfoldable pub write_list : List ℕ → ℕ → ℕ → List ℕ → WriteOutcome
write_list b places work_places out = write_outcome b (gate b places work_places) out (write_refusal b places work_places (length out))

unfoldable pub wrote_as_paper : Result ℕ WriteError → Answer
wrote_as_paper (Ok n) = value n
wrote_as_paper (Err OutputShort) = report 53 0
wrote_as_paper (Err (Refused r)) = inside 54 (report_as_paper r)

-- ── reading ──

pub record ReadOutcome : Type 0 where
  pub answer : Answer
  pub output : List ℕ
  pub bytes : List ℕ
  pub index : List ℕ
  pub work : List ℕ

-- a refusal before a table is looked at: the u32 slices end all 0, and "the byte work slice ends all 0"
abbrev pub unlooked : Answer → ℕ → ℕ → ℕ → List ℕ → ReadOutcome
unlooked a places work_places lent out = record { answer = a; output = out; bytes = zeros lent; index = zeros places; work = zeros work_places }

-- 54 for the table that was made: "the table is refused (its report inside)"; else the table itself
abbrev pub looked : List ℕ → Outcome → ℕ → List ℕ → Option Answer → ReadOutcome
looked made checked lent out none =
    record { answer = value (length made); output = made ++ drop (length made) out; bytes = zeros lent; index = checked.index; work = checked.work }
looked made checked lent out (some a) = record { answer = a; output = out; bytes = zeros lent; index = checked.index; work = checked.work }

-- "Then 53, the output or a lent byte work slice is shorter than the table; then 54"
abbrev pub made_outcome : List ℕ → ℕ → ℕ → ℕ → List ℕ → Option ℕ → ReadOutcome
made_outcome made places work_places lent out (some n) = unlooked (report n 0) places work_places lent out
made_outcome made places work_places lent out none =
    looked made (gate made places work_places) lent out (refused_inside 54 (refusal made places work_places))

abbrev pub too_short : List ℕ → ℕ → List ℕ → Option ℕ
too_short made lent out = first_due (53 when (ltb (length out) (length made) || ltb lent (length made)) ∷ [])

-- 50 to 52 speak first
abbrev pub read_outcome : Listed → ℕ → ℕ → ℕ → List ℕ → ReadOutcome
read_outcome (unread n) places work_places lent out = unlooked (report n 0) places work_places lent out
read_outcome (table order T) places work_places lent out =
    made_outcome (bytes_of order T) places work_places lent out (too_short (bytes_of order T) lent out)

unfoldable pub read_into : List ℕ → ℕ → ℕ → ℕ → List ℕ → ReadOutcome
read_into s places work_places lent out = read_outcome (read_list s) places work_places lent out

unfoldable pub fault_number : Fault → ℕ
fault_number UnknownTag = 50
fault_number CutShort = 51
fault_number OutOfPlace = 52

unfoldable pub made_as_paper : Result ℕ MakeError → Answer
made_as_paper (Ok n) = value n
made_as_paper (Err (made.Unread f)) = report (fault_number f) 0
made_as_paper (Err made.Short) = report 53 0
made_as_paper (Err (made.Refused r)) = inside 54 (report_as_paper r)
