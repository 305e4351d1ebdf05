-- Phase 1 and the names of a table behind a base of so many bytes; offsets count in the table's own strings.
use Rattle.paper.specs.declared.Report.{Report}
use Rattle.header.specs.declared.first.Sections.{Sections}
use Rattle.std.specs.Prelude.{ℕ, ◌+◌, ◌≡◌, Bool, not, ◌||◌, List, ltb, length, Result}
use Rattle.std.specs.Borrow.{Bor}
use Rattle.header.specs.Header.{HeaderBy}
use Rattle.header.specs.Part.{name_if, start_if}
use Rattle.paper.specs.declared.Part.{Part}
use Rattle.paper.specs.rules.Choice.{is_some}
use Rattle.paper.specs.rules.Header.{str_len}
use Rattle.pairs.specs.Lean.{behind_report}

-- both sections where nothing is due, else the report
abbrev pub HeaderBehind : Result Sections Report → ℕ → List ℕ → Type 0
HeaderBehind h before b = HeaderBy (behind_report before b) h b

-- the table would get any of reports 1 to 5, or the offset is not below the length of its strings
unfoldable pub nameless_behind : ℕ → List ℕ → ℕ → Bool
nameless_behind before b off = is_some (behind_report before b) || not (ltb off (str_len b))

-- the name, empty where there is none, and where it begins, 0 where there is none
unfoldable pub name_at_behind : ℕ → List ℕ → ℕ → List ℕ
name_at_behind before b off = name_if (nameless_behind before b off) b off

unfoldable pub name_start_behind : ℕ → List ℕ → ℕ → ℕ
name_start_behind before b off = start_if (nameless_behind before b off) b off

-- both numbers of the name at an offset
pub record PartBehind (p : Part) (before : ℕ) (b : List ℕ) (off : ℕ) : Type 0 where
  pub starts : p.start.0 ≡ name_start_behind before b off
  pub long : p.length ≡ length (name_at_behind before b off)

-- a reference to the name at an offset: its bytes, and the very place in the blob that it points to
pub record NamePartBehind (r : Bor (List ℕ)) (before : ℕ) (b : Bor (List ℕ)) (off : ℕ) : Type 0 where
  pub bytes : r.now ≡ name_at_behind before b.now off
  pub place : r.ref_ptr ≡ (b.ref_ptr.0, name_start_behind before b.now off + b.ref_ptr.1)
