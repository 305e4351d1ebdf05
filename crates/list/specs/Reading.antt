-- What reading a list asks of its parts, answers and leaves, in the paper's terms.
use Rattle.lists.specs.declared.MakeError.{MakeError}
use Rattle.paper.specs.declared.Report.{Report}
use Rattle.std.specs.Prelude.{ℕ, ◌≡◌, List, length, Result}
use Rattle.gate.specs.Check.{CheckOf}
use Rattle.list.specs.Making.{blob_in}
use Rattle.lists.specs.Kept.{made_as_paper, read_into}
use Rattle.lists.specs.List.{read_list}
use Rattle.paper.specs.rules.Gate.{zeros}
use Rattle.taking.specs.Measuring.{TableIn}
use Rattle.taking.specs.declared.whole.Sections.{Sections}

-- the table of a list is laid, and checked as it stands there
pub record LaidOf (c : Result ℕ Report) (s : List ℕ) (places work_places : ℕ) (index work bytes : List ℕ) : Type 0 where
  pub checks : CheckOf c (blob_in (read_list s)) places work_places index work
  pub lays : bytes ≡ blob_in (read_list s)

-- a list that was measured, with both u32 slices cleared
pub record LookAsk (s : List ℕ) (x : Sections) (index work : List ℕ) : Type 0 where
  pub table : TableIn s x
  pub index_clear : index ≡ zeros (length index)
  pub work_clear : work ≡ zeros (length work)

-- the answer, both u32 slices and the output afterwards, where so many bytes were lent
pub record LookedOf (r : Result ℕ MakeError) (s : List ℕ) (places work_places lent : ℕ) (out index work output : List ℕ) : Type 0 where
  pub answers : made_as_paper r ≡ (read_into s places work_places lent out).answer
  pub indexes : index ≡ (read_into s places work_places lent out).index
  pub works : work ≡ (read_into s places work_places lent out).work
  pub outputs : output ≡ (read_into s places work_places lent out).output

-- and the lent bytes
pub record ReadOf (r : Result ℕ MakeError) (s : List ℕ) (places work_places lent : ℕ) (out index work bytes output : List ℕ) : Type 0 where
  pub told : LookedOf r s places work_places lent out index work output
  pub blanks : bytes ≡ (read_into s places work_places lent out).bytes
