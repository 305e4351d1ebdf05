-- What the entry points for C leave in the slices that they are lent.
use Rattle.std.specs.Prelude.{ℕ, ◌/◌, ◌≡◌, cond, List, [], ◌∷◌, ◌++◌, length, take, drop}
use Rattle.exts.specs.Entries.{entry_as_paper, entry_bytes, record_asked}
use Rattle.exts.specs.Ext.{extend}
use Rattle.handed.specs.Handed.{numbers_of, sixteen_of}
use Rattle.handed.specs.Places.{found_numbers, found_in}
use Rattle.lists.specs.Kept.{read_into, write_list}
use Rattle.pairs.specs.Lean.{lean_gate, nameless_over, name_at_over, in_base, name_start_over}
use Rattle.paper.specs.rules.Answer.{Answer}
use Rattle.paper.specs.rules.Gate.{gate}
use Rattle.paper.specs.rules.Join.{join}
use Rattle.paper.specs.rules.Name.{nameless, name_at, name_start}
use Rattle.paper.specs.terms.Put.{laid}
use Rattle.parts.specs.Cut.{cut}
use Rattle.record.specs.Gives.{member_gives}
use Rattle.values.specs.Given.{Finding, read_found, Given, given}

-- the four numbers of an answer, as many as fit, over the first places of a slice
unfoldable pub told_in : Answer → List ℕ → List ℕ
told_in r places = take (length places) (r.number ∷ r.inner ∷ r.t ∷ r.p ∷ []) ++ drop 4 places

-- and a fifth behind them: the high word of a span's first bit
unfoldable pub told_wide : Answer → ℕ → List ℕ → List ℕ
told_wide r high places = take (length places) (r.number ∷ r.inner ∷ r.t ∷ r.p ∷ high ∷ []) ++ drop 5 places

-- a span in five places
abbrev pub span_in : Finding → List ℕ → List ℕ
span_in f places = told_wide (found_numbers f) (f.from / 4294967296) places

-- what the span in some places says of a record's bytes
abbrev pub given_in : List ℕ → List ℕ → Given
given_in span s = given (read_found (found_in span) s)

-- the name at an offset: 1 where there is none, else 0; where it begins in the blob, and its length
abbrev pub part_answer : List ℕ → ℕ → Answer
part_answer b off = record { number = cond (nameless b off) 1 0; inner = 0; t = name_start b off; p = length (name_at b off) }

-- the same of two tables, one on the other: 1 inside where the name lies in the second blob
abbrev pub part_over : List ℕ → List ℕ → ℕ → Answer
part_over base own off =
    record {
      number = cond (nameless_over base own off) 1 0;
      inner = cond (nameless_over base own off) 0 (cond (in_base base own off) 0 1);
      t = name_start_over base own off;
      p = length (name_at_over base own off);
    }

-- a record of a section: 1 where there is none, else 0; its group's name offset, where it begins in the section, and a fifth, its bytes
abbrev pub record_in : List ℕ → ℕ → ℕ → List ℕ → List ℕ
record_in s x y told = told_wide (entry_as_paper (record_asked s x y)) (length (entry_bytes s (record_asked s x y))) told

-- a check: the gate's answer and what it leaves in both slices
pub record CheckTold (b : List ℕ) (places work_places : ℕ) (told index work answer : List ℕ) : Type 0 where
  pub indexes : index ≡ (gate b places work_places).index
  pub works : work ≡ (gate b places work_places).work
  pub answers : answer ≡ told_in (gate b places work_places).answer told

-- the check of a table on its base: the same of both
pub record LeanTold (base own : List ℕ) (places work_places : ℕ) (told index work answer : List ℕ) : Type 0 where
  pub indexes : index ≡ (lean_gate base own places work_places).index
  pub works : work ≡ (lean_gate base own places work_places).work
  pub answers : answer ≡ told_in (lean_gate base own places work_places).answer told

-- a join: its answer and what it leaves in all three
pub record JoinTold (a b : List ℕ) (places work_places : ℕ) (out told index work output answer : List ℕ) : Type 0 where
  pub indexes : index ≡ (join a b places work_places out).index
  pub works : work ≡ (join a b places work_places out).work
  pub outputs : output ≡ (join a b places work_places out).output
  pub answers : answer ≡ told_in (join a b places work_places out).answer told

-- taking apart: its answer and what it leaves in all four
pub record SplitTold (b : List ℕ) (n s places work_places : ℕ) (out out' told index work first second answer : List ℕ) : Type 0 where
  pub indexes : index ≡ (cut b n s places work_places out out').index
  pub works : work ≡ (cut b n s places work_places out out').work
  pub firsts : first ≡ (cut b n s places work_places out out').first
  pub seconds : second ≡ (cut b n s places work_places out out').second
  pub answers : answer ≡ told_in (cut b n s places work_places out out').answer told

-- writing a list: its answer and what it leaves in all three
pub record ListTold (b : List ℕ) (places work_places : ℕ) (out told index work output answer : List ℕ) : Type 0 where
  pub indexes : index ≡ (write_list b places work_places out).index
  pub works : work ≡ (write_list b places work_places out).work
  pub outputs : output ≡ (write_list b places work_places out).output
  pub answers : answer ≡ told_in (write_list b places work_places out).answer told

-- reading one back: the same, and what it leaves in the lent bytes
pub record MakeTold (s : List ℕ) (places work_places lent : ℕ) (out told index work bytes output answer : List ℕ) : Type 0 where
  pub indexes : index ≡ (read_into s places work_places lent out).index
  pub works : work ≡ (read_into s places work_places lent out).work
  pub blanks : bytes ≡ (read_into s places work_places lent out).bytes
  pub outputs : output ≡ (read_into s places work_places lent out).output
  pub answers : answer ≡ told_in (read_into s places work_places lent out).answer told

-- the check of a section beside its table: its answer and what the check of the table leaves in both slices
pub record ExtTold (b s : List ℕ) (places work_places : ℕ) (told index work answer : List ℕ) : Type 0 where
  pub indexes : index ≡ (extend b s places work_places).index
  pub works : work ≡ (extend b s places work_places).work
  pub answers : answer ≡ told_in (extend b s places work_places).answer told

-- a member's answer: its numbers, and its value's sixteen bytes, where there is room for them
pub record ValueTold (g : Given) (told room answer value : List ℕ) : Type 0 where
  pub answers : answer ≡ told_wide (numbers_of g) (g.from / 4294967296) told
  pub values : value ≡ laid room 0 (sixteen_of g)

-- with what the check of the blob leaves in both slices
pub record MemberTold (b : List ℕ) (places work_places t m : ℕ) (s told room index work answer value : List ℕ) : Type 0 where
  pub indexes : index ≡ (gate b places work_places).index
  pub works : work ≡ (gate b places work_places).work
  pub gives : ValueTold (member_gives b places work_places t m s) told room answer value
