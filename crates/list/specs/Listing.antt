-- What writing a list asks of its parts, answers and leaves, in the paper's terms.
use Rattle.lists.specs.declared.WriteError.{WriteError}
use Rattle.std.specs.Prelude.{ℕ, ◌≡◌, List, [], length, ltb, ◌∷◌, Result}
use Rattle.std.proofs.Math.Option.{none}
use Rattle.lists.specs.Kept.{WriteOutcome, list_in, write_list, write_outcome, wrote_as_paper}
use Rattle.paper.specs.rules.Answer.{accepted}
use Rattle.paper.specs.rules.Choice.{◌when◌, first_due}
use Rattle.paper.specs.rules.Gate.{naming, refusal}
use Rattle.paper.specs.terms.Fit.{Bytes}

-- an accepted blob
pub record ListAsk (b : List ℕ) : Type 0 where
  pub places : ℕ
  pub work : ℕ
  pub accepted : refusal b places work ≡ none
  pub bytes : Bytes b

-- what 53 leaves of an accepted table's list, whatever its check has left in the u32 slices
unfoldable pub listed_outcome : List ℕ → List ℕ → WriteOutcome
listed_outcome b out =
    write_outcome b (record { answer = accepted 0; index = []; work = [] }) out (naming 0 (first_due (53 when ltb (length out) (length (list_in b)) ∷ [])))

pub record ListedOf (r : Result ℕ WriteError) (b out output : List ℕ) : Type 0 where
  pub answers : wrote_as_paper r ≡ (listed_outcome b out).answer
  pub outputs : output ≡ (listed_outcome b out).output

-- the answer and all three slices afterwards
pub record WriteOf (r : Result ℕ WriteError) (b : List ℕ) (places work_places : ℕ) (out index work output : List ℕ) : Type 0 where
  pub answers : wrote_as_paper r ≡ (write_list b places work_places out).answer
  pub indexes : index ≡ (write_list b places work_places out).index
  pub works : work ≡ (write_list b places work_places out).work
  pub outputs : output ≡ (write_list b places work_places out).output
