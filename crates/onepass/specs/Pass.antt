-- What is promised of a table that is good for sure, or is read to its end.
use Rattle.std.specs.Prelude.{ℕ, ◌≤◌, ◌≡◌, List, []}
use Rattle.std.proofs.Math.Option.{none}
use Rattle.onepass.specs.declared.whole.Sure.{Sure}
use Rattle.onepass.specs.declared.whole.Sure.TheVariants.{Good, Read, Unsure}
use Rattle.paper.specs.rules.Choice.{first_due}
use Rattle.paper.specs.rules.Gate.{index_of}
use Rattle.paper.specs.rules.Header.{strings_in}
use Rattle.paper.specs.rules.Table.{count, record_at}
use Rattle.paper.specs.rules.Walk.{table_of}
use Rattle.paper.specs.terms.Good.{Meets, Readable}
use Rattle.rules.specs.Phase.{rules_of}

-- it meets the paper, and the index has the places of its records
pub record GoodOf (n : ℕ) (b : List ℕ) (places room : ℕ) (index : List ℕ) : Type 0 where
  pub meets : Meets b places room
  pub counted : n ≡ count (table_of b)
  pub placed : index ≡ index_of (table_of b) places

-- or phases 1 to 3 have nothing to say of it, and the index has the places of its records
pub record ReadOf (n : ℕ) (b : List ℕ) (places room : ℕ) (index : List ℕ) : Type 0 where
  pub readable : Readable b places room
  pub counted : n ≡ count (table_of b)
  pub placed : index ≡ index_of (table_of b) places
  pub quiet : (t : ℕ) → 1 ≤ t → t ≤ n → none ≡ first_due (rules_of [] (strings_in b) (record_at (table_of b) t))

abbrev pub SureOf : Sure → List ℕ → ℕ → ℕ → List ℕ → Type 0
SureOf (Good n) b places room index = GoodOf n b places room index
SureOf (Read n) b places room index = ReadOf n b places room index
SureOf Unsure b places room index = Unit {0}
