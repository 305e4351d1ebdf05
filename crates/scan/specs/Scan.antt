-- What phases 1 and 2 and the places lent come to: the count, or a report; and the index afterwards.
use Rattle.paper.specs.declared.Report.{Report}
use Rattle.std.specs.Prelude.{ℕ, ◌≡◌, List, Err, Ok, Result}
use Rattle.std.proofs.Math.Option.{Option, none, some}
use Rattle.paper.specs.rules.Answer.{Answer, report_as_paper}
use Rattle.paper.specs.rules.Choice.{or_else}
use Rattle.paper.specs.rules.Gate.{phase1, phase2, short_slices, zeros, index_of}
use Rattle.paper.specs.rules.Table.{count}
use Rattle.paper.specs.rules.Walk.{table_of}

-- the reports 1 to 9, the earliest first
unfoldable pub scan_report : List ℕ → ℕ → ℕ → Option Answer
scan_report b places work = or_else (phase1 b) (or_else (phase2 b) (short_slices (count (table_of b)) places work))

-- the answer: the count of types where nothing is reported
pub record CountOf (n : ℕ) (b : List ℕ) (places work : ℕ) : Type 0 where
  pub silent : scan_report b places work ≡ none
  pub counts : n ≡ count (table_of b)

abbrev pub FoundOf : Result ℕ Report → List ℕ → ℕ → ℕ → Type 0
FoundOf (Ok n) b places work = CountOf n b places work
FoundOf (Err r) b places work = scan_report b places work ≡ some (report_as_paper r)

-- the index afterwards: the places of the records, or all 0
abbrev pub index_after : Result ℕ Report → List ℕ → ℕ → List ℕ
index_after (Ok n) b places = index_of (table_of b) places
index_after (Err r) b places = zeros places

pub record ScanOf (s : Result ℕ Report) (b : List ℕ) (places work : ℕ) (index : List ℕ) : Type 0 where
  pub found : FoundOf s b places work
  pub left : index ≡ index_after s b places
