-- What taking a table apart asks of its parts, answers and leaves, in the paper's terms.
use Rattle.parts.specs.declared.SplitError.{SplitError}
use Rattle.std.specs.Prelude.{ℕ, ◌+◌, ◌≤◌, ◌≡◌, true, List, [], ◌++◌, length, take, drop, Result}
use Rattle.std.proofs.Math.Option.{none}
use Rattle.paper.specs.rules.Answer.{accepted}
use Rattle.paper.specs.rules.Choice.{first_due}
use Rattle.paper.specs.rules.Gate.{gate, naming, refusal}
use Rattle.paper.specs.rules.Limits.{byte_limit}
use Rattle.paper.specs.rules.Table.{Record, count}
use Rattle.paper.specs.rules.Walk.{flat, table_of, type_len_of}
use Rattle.paper.specs.rules.Word.{bytes_of_words}
use Rattle.paper.specs.terms.Fit.{Below, Bytes, EveryWhole, word_bound}
use Rattle.parts.specs.Cut.{CutOutcome, cut, cut_ok, cut_outcome, cut_rules, parted_as_paper}
use Rattle.shift.specs.Made.{made_header}
use Rattle.shift.specs.Raising.{records_bytes}
use Rattle.shift.specs.declared.groups.Shift.{Shift}
use Rattle.split.specs.declared.blobs.Piece.{Piece}

-- ── a part ──

-- the piece lies in a blob of so many bytes, and the output has just the room for it
pub record PartAsk (long : ℕ) (piece : Piece) (room : ℕ) : Type 0 where
  pub header : 24 ≤ long
  pub short : long ≤ byte_limit
  pub records_inside : piece.from + piece.types ≤ long
  pub strings-inside : piece.start + piece.strings ≤ long
  pub fits : room ≡ 24 + piece.types + piece.strings

-- whatever records stand at the piece's place, they are written behind the header, raised, and the strings behind them
pub record PartPut (b : List ℕ) (piece : Piece) (by : Shift) (before after : List ℕ) : Type 0 where
  pub puts : (rs : List Record) (t : List ℕ) → EveryWhole rs → Below word_bound (flat rs) → length rs ≡ piece.records → type_len_of rs ≡ piece.types
      → drop piece.from b ≡ bytes_of_words by.order (flat rs) ++ t
      → after ≡ made_header by.order b piece.types piece.strings ++ (records_bytes by rs ++ take piece.strings (drop piece.start b))

-- ── an accepted table ──

-- a blob of n types that is accepted, and the index that its check has left
pub record AcceptedBy (b index : List ℕ) (n : ℕ) : Type 0 where
  pub places : ℕ
  pub work : ℕ
  pub accepted : refusal b places work ≡ none
  pub bytes : Bytes b
  pub indexed : index ≡ (gate b places work).index
  pub counted : n ≡ count (table_of b)

-- through which a cut goes; the second part's records begin at a place
pub record CutAsk (b : List ℕ) (n s middle : ℕ) : Type 0 where
  pub places : ℕ
  pub work : ℕ
  pub accepted : refusal b places work ≡ none
  pub bytes : Bytes b
  pub goes : cut_ok n s (table_of b) ≡ true
  pub there : middle ≡ 24 + type_len_of (take n (table_of b).records)

-- ── the answer ──

-- what 60 and 61 leave of an accepted table's cut, whatever its check has left in the u32 slices
unfoldable pub apart_outcome : List ℕ → ℕ → ℕ → List ℕ → List ℕ → CutOutcome
apart_outcome b n s out out' =
    cut_outcome b n s (record { answer = accepted 0; index = []; work = [] }) out out' (naming 0 (first_due (cut_rules b n s (length out) (length out'))))

pub record ApartOf (r : Result (ℕ × ℕ) SplitError) (b : List ℕ) (n s : ℕ) (out out' first second : List ℕ) : Type 0 where
  pub answers : parted_as_paper r ≡ (apart_outcome b n s out out').answer
  pub firsts : first ≡ (apart_outcome b n s out out').first
  pub seconds : second ≡ (apart_outcome b n s out out').second

-- the answer and all four slices afterwards are those of the paper's cut
pub record SplitOf (r : Result (ℕ × ℕ) SplitError) (b : List ℕ) (n s places work_places : ℕ) (out out' index work first second : List ℕ) : Type 0 where
  pub answers : parted_as_paper r ≡ (cut b n s places work_places out out').answer
  pub indexes : index ≡ (cut b n s places work_places out out').index
  pub works : work ≡ (cut b n s places work_places out out').work
  pub firsts : first ≡ (cut b n s places work_places out out').first
  pub seconds : second ≡ (cut b n s places work_places out out').second
