-- What the check asks of its parts and answers, in the paper's terms.
use Rattle.paper.specs.declared.Report.{Report}
use Rattle.std.specs.Prelude.{ℕ, ◌≡◌, List, Result}
use Rattle.paper.specs.rules.Answer.{checked_as_paper}
use Rattle.paper.specs.rules.Gate.{gate}

-- the answer and the index afterwards are those of the gate
pub record AnswerOf (c : Result ℕ Report) (b : List ℕ) (places work_places : ℕ) (index : List ℕ) : Type 0 where
  pub answers : checked_as_paper c ≡ (gate b places work_places).answer
  pub indexes : index ≡ (gate b places work_places).index

-- and so is the work slice
pub record CheckOf (c : Result ℕ Report) (b : List ℕ) (places work_places : ℕ) (index work : List ℕ) : Type 0 where
  pub told : AnswerOf c b places work_places index
  pub cleared : work ≡ (gate b places work_places).work
