-- What the check of a leaning table asks of its parts and answers, in the paper's terms.
use Rattle.paper.specs.declared.LeanError.{LeanError}
use Rattle.std.specs.Prelude.{ℕ, ◌≡◌, false, List, Result}
use Rattle.std.proofs.Math.Option.{none}
use Rattle.pairs.specs.Lean.{other_opening, lean_gate}
use Rattle.paper.specs.rules.Answer.{leaned_as_paper}
use Rattle.paper.specs.rules.Gate.{refusal, index_of}
use Rattle.paper.specs.rules.Table.{count}
use Rattle.paper.specs.rules.Walk.{table_of}
use Rattle.paper.specs.terms.Fit.{Bytes}

-- an accepted base of n types, whose check has left the index, and a table that begins in no other order
pub record AfterBase (base own : List ℕ) (n : ℕ) (index : List ℕ) (places work : ℕ) : Type 0 where
  pub base_bytes : Bytes base
  pub accepted : refusal base places work ≡ none
  pub counted : n ≡ count (table_of base)
  pub indexed : index ≡ index_of (table_of base) places
  pub one-order : other_opening base own ≡ false

-- the answer and the index afterwards are those of the definition
pub record LeanAnswer (l : Result ℕ LeanError) (base own : List ℕ) (places work_places : ℕ) (index : List ℕ) : Type 0 where
  pub answers : leaned_as_paper l ≡ (lean_gate base own places work_places).answer
  pub indexes : index ≡ (lean_gate base own places work_places).index

-- and so is the work slice
pub record LeanOf (l : Result ℕ LeanError) (base own : List ℕ) (places work_places : ℕ) (index work : List ℕ) : Type 0 where
  pub told : LeanAnswer l base own places work_places index
  pub cleared : work ≡ (lean_gate base own places work_places).work
