-- What is true of a pair of which the leaning check says nothing. Demand 2's second form speaks of this.
use Rattle.std.specs.Prelude.{ℕ, ◌+◌, ◌-◌, ◌≤◌, ◌<◌, ◌≡◌, List, length, get_or}
use Rattle.std.proofs.Math.Option.{none}
use Rattle.pairs.specs.Lean.{own_records, table_over}
use Rattle.paper.specs.rules.Gate.{refusal}
use Rattle.paper.specs.rules.Header.{order_of, strings_in}
use Rattle.paper.specs.rules.Limits.{byte_limit, type_limit}
use Rattle.paper.specs.rules.Table.{Table, count}
use Rattle.paper.specs.rules.Walk.{type_words, table_of}
use Rattle.paper.specs.terms.Good.{SectionFacts, WholeWalk, Sound}

-- a string section that is empty or ends in a zero byte
abbrev pub Ended : List ℕ → Type 0
Ended s = get_or s (length s - 1) 0 ≡ 0

-- phase 1 of a table behind a base of so many bytes
pub record BehindFacts (before : ℕ) (own : List ℕ) : Type 0 where
  pub sections : SectionFacts own
  pub short : before + length own ≤ byte_limit
  pub ended : Ended (strings_in own)

-- the table that an own blob holds by itself: its records and its strings
abbrev pub own_table : List ℕ → List ℕ → Table
own_table base own = record { records = own_records base own; strings = strings_in own }

-- phases 1 and 2 of both, in one order, and places enough
pub record PairReadable (base own : List ℕ) (places work : ℕ) : Type 0 where
  pub base-accepted : refusal base places work ≡ none
  pub one-order : order_of own ≡ order_of base
  pub header : BehindFacts (length base) own
  pub section : WholeWalk (type_limit - count (table_of base)) (type_words own) (own_records base own)
  pub enough_places : count (table_over base own) < places
  pub enough_work : count (table_over base own) < work

-- "Check such a table against an accepted base, with paper 01's rules over both together": all of it
pub record PairMeets (base own : List ℕ) (places work : ℕ) : Type 0 where
  pub readable : PairReadable base own places work
  pub sound : Sound (table_over base own)
