-- Phases 1 and 2 of a table behind a base of so many bytes and types, and the places lent: the count of both, or a report; and the index afterwards.
use Rattle.paper.specs.declared.Report.{Report}
use Rattle.std.specs.Prelude.{ℕ, suc, ◌+◌, ◌≡◌, cond, List, ltb, length, Err, Ok, Result}
use Rattle.std.proofs.Math.Option.{Option, none, some}
use Rattle.paper.specs.rules.Answer.{Answer, report_at, report_as_paper}
use Rattle.paper.specs.rules.Choice.{or_else}
use Rattle.paper.specs.rules.Gate.{naming, walk_report, short_slices, zeros}
use Rattle.paper.specs.rules.Header.{header_length}
use Rattle.pairs.specs.Lean.{behind_report, walk_behind}
use Rattle.paper.specs.rules.Limits.{type_limit}
use Rattle.paper.specs.rules.Walk.{records_in, places_from}
use Rattle.paper.specs.terms.Put.{put}

-- a base of more types than the limit leaves room for none: 8 at once, though no check accepts such a base
unfoldable pub walk_report_behind : ℕ → List ℕ → Option Answer
walk_report_behind n b = cond (ltb type_limit n) (some (report_at 8 (type_limit + 1) header_length)) (walk_report (walk_behind n b))

-- how many types there are together
abbrev pub count_behind : ℕ → List ℕ → ℕ
count_behind n b = n + length (records_in (walk_behind n b))

-- the reports 6 to 9, and 1 to 9, the earliest first
abbrev pub rest_report : ℕ → List ℕ → ℕ → ℕ → Option Answer
rest_report n b places work = or_else (walk_report_behind n b) (short_slices (count_behind n b) places work)

unfoldable pub scan_report_behind : ℕ → ℕ → List ℕ → ℕ → ℕ → Option Answer
scan_report_behind before n b places work = or_else (naming 0 (behind_report before b)) (rest_report n b places work)

-- the answer: the count where nothing is reported
pub record CountBy (m : ℕ) (due : Option Answer) (n : ℕ) : Type 0 where
  pub silent : due ≡ none
  pub counts : m ≡ n

abbrev pub FoundBy : Result ℕ Report → Option Answer → ℕ → Type 0
FoundBy (Ok m) due n = CountBy m due n
FoundBy (Err r) due n = due ≡ some (report_as_paper r)

-- the index afterwards: the places of the new records behind those of so many types, or all 0
abbrev pub index_behind : Result ℕ Report → ℕ → List ℕ → List ℕ → List ℕ
index_behind (Ok m) n b index = put index (suc n) (places_from header_length (records_in (walk_behind n b)))
index_behind (Err r) n b index = zeros (length index)

pub record ScanBehind (s : Result ℕ Report) (before : ℕ) (b : List ℕ) (n : ℕ) (index : List ℕ) (work : ℕ) (after : List ℕ) : Type 0 where
  pub found : FoundBy s (scan_report_behind before n b (length index) work) (count_behind n b)
  pub left : after ≡ index_behind s n b index
