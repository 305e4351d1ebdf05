-- What the pass from the first record to the last asks and answers.
use Rattle.std.specs.Prelude.{ℕ, ◌+◌, ◌*◌, ◌≤◌, ◌≡◌, true, List, [], length, set}
use Rattle.std.proofs.Math.Option.{none}
use Rattle.glance.specs.Glance.{All, Glancing, strange}
use Rattle.onepass.specs.Seen.{Told}
use Rattle.onepass.specs.declared.forth.Ran.{Ran}
use Rattle.onepass.specs.declared.forth.Ran.TheVariants.{Untold, Settled, Open}
use Rattle.paper.specs.declared.Order.{Order}
use Rattle.paper.specs.rules.Choice.{first_due}
use Rattle.paper.specs.rules.Gate.{index_of, phase1, zeros}
use Rattle.paper.specs.rules.Header.{header_length, order_of, strings_in, type_len}
use Rattle.paper.specs.rules.Table.{count, kind_in, record_at, tail_length}
use Rattle.paper.specs.rules.Walk.{known, table_of}
use Rattle.paper.specs.rules.Word.{word_at}
use Rattle.paper.specs.terms.Fit.{Bytes}
use Rattle.paper.specs.terms.Good.{Readable}
use Rattle.rules.specs.Phase.{rules_of}

-- ── one record ──

-- how many bytes a record of a known kind has
abbrev pub extent : ℕ → ℕ
extent info = 12 + 4 * tail_length info

-- a type's place and state are put down, and the place behind its record is answered
pub record PutDown (s size at k : ℕ) (index work : List ℕ) (next : ℕ) (index' work' : List ℕ) : Type 0 where
  pub told : s ≡ strange → ⊥
  pub behind : next ≡ at + size
  pub placed : index' ≡ set index k at
  pub stated : work' ≡ set work k s

-- a record of some bytes, of which so many are left, is that of type k
pub record Stepped (order : Order) (base strings s : List ℕ) (room at k : ℕ) (index work : List ℕ) (next : ℕ) (index' work' : List ℕ) : Type 0 where
  pub state : ℕ
  pub knows : known (kind_in (word_at order s 4)) ≡ true
  pub inside : extent (word_at order s 4) ≤ room
  pub behind : next ≡ at + extent (word_at order s 4)
  pub told : Told order base strings work s state
  pub placed : index' ≡ set index k at
  pub stated : work' ≡ set work k state

-- ── all records ──

-- what phase 1 has shown, and two slices that are clear
pub record Begins (order : Order) (base strings b : List ℕ) (end : ℕ) (index work : List ℕ) : Type 0 where
  pub bytes : Bytes b
  pub silent : phase1 b ≡ none
  pub ordered : order ≡ order_of b
  pub alone : base ≡ []
  pub own : strings ≡ strings_in b
  pub section : end ≡ header_length + type_len b
  pub index_clear : index ≡ zeros (length index)
  pub work_clear : work ≡ zeros (length work)

-- phases 1 and 2 have nothing to say of a blob, and the index has the places of its records
pub record Indexed (b : List ℕ) (places room : ℕ) (index : List ℕ) : Type 0 where
  pub bytes : Bytes b
  pub readable : Readable b places room
  pub placed : index ≡ index_of (table_of b) places

-- nor has phase 3, and the work slice has the states of its types
pub record Through (n : ℕ) (b : List ℕ) (places room : ℕ) (index work : List ℕ) : Type 0 where
  pub indexed : Indexed b places room index
  pub counted : n ≡ count (table_of b)
  pub quiet : (t : ℕ) → 1 ≤ t → t ≤ n → none ≡ first_due (rules_of [] (strings_in b) (record_at (table_of b) t))
  pub told : Glancing (table_of b) n work

abbrev pub RanOf : Ran → List ℕ → ℕ → ℕ → List ℕ → List ℕ → Type 0
RanOf Untold b places room index work = Unit {0}
RanOf (Settled n) b places room index work = Through n b places room index work × All n work
RanOf (Open n) b places room index work = Through n b places room index work
