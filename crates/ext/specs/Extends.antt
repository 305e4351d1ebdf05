-- What the check of a section answers and leaves, in the paper's terms.
use Rattle.exts.specs.declared.ExtError.{ExtError}
use Rattle.std.specs.Prelude.{ℕ, ◌≡◌, List, [], take, Result}
use Rattle.std.proofs.Math.Option.{Option, none, some}
use Rattle.exts.specs.Ext.{extend, extended_as_paper, section_fault}
use Rattle.paper.specs.rules.Answer.{Answer, report, value}
use Rattle.paper.specs.rules.Header.{order_of}
use Rattle.views.specs.Shown.{table_by}
use Rattle.views.specs.declared.View.{View}

-- what is said where a section has this fault, or none
abbrev pub fault_answer : Option ℕ → Answer
fault_answer none = value 0
fault_answer (some n) = report n 0

-- the answer beside the table that an index shows, whichever view of n types in the blob's order it is looked at by
pub record BesideOf (r : Result (Unit {0}) ExtError) (b index : List ℕ) (n : ℕ) (s : List ℕ) : Type 0 where
  pub is : (v : View) → v.n ≡ n → v.order ≡ order_of b → v.before ≡ 0 → extended_as_paper r ≡ fault_answer (section_fault (take 4 b) (table_by [] b index v) s)

-- the answer and both slices afterwards are those of the paper
pub record ExtOf (r : Result (Unit {0}) ExtError) (b s : List ℕ) (places work_places : ℕ) (index work : List ℕ) : Type 0 where
  pub answers : extended_as_paper r ≡ (extend b s places work_places).answer
  pub indexes : index ≡ (extend b s places work_places).index
  pub works : work ≡ (extend b s places work_places).work
