-- What is true of a section that is accepted, in the words of order 8. The theorems speak of these.
use Rattle.std.specs.Prelude.{ℕ, zero, suc, ◌+◌, ◌%◌, ◌≤◌, ◌<◌, ◌≡◌, true, List, [], ◌∷◌, ◌⊎◌, length, take}
use Rattle.std.proofs.Math.Option.{Option, none, some}
use Rattle.exts.specs.Items.{Entry, Item, broken, group, entry, head_length, describes, part_offset, part_length, items}
use Rattle.exts.specs.Sorts.{roles_of, sorts}
use Rattle.exts.specs.declared.Role.{Role}
use Rattle.exts.specs.declared.Role.TheVariants.{Plain, Name, FuncType, AnyType}
use Rattle.exts.specs.declared.Sort.{Sort}
use Rattle.paper.specs.rules.Gate.{refusal}
use Rattle.paper.specs.rules.Header.{header_length}
use Rattle.paper.specs.rules.KindNo.{FUNC}
use Rattle.paper.specs.rules.Limits.{byte_limit}
use Rattle.paper.specs.rules.Table.{Table, count, kind_at}
use Rattle.paper.specs.rules.Walk.{table_of}

-- ── the header ──

-- a part begins at an offset where the header has words for it, and has a length that is a multiple of 4
pub record PartFollows (s : List ℕ) (sort : Sort) (o : ℕ) : Type 0 where
  pub there : describes s sort ≡ true → part_offset s sort ≡ o
  pub fours : part_length s sort % 4 ≡ 0

-- "the parts" "follow one another" "and fill the blob"
abbrev pub PartsFollow : List ℕ → ℕ → List Sort → Type 0
PartsFollow s o [] = head_length s + o ≡ length s
PartsFollow s o (sort ∷ later) = PartFollows s sort o × PartsFollow s (o + part_length s sort) later

pub record HeadFacts (s : List ℕ) : Type 0 where
  pub long : header_length ≤ length s
  pub short : length s ≤ byte_limit
  pub header : (head_length s ≡ 24) ⊎ (head_length s ≡ 32)
  pub header_inside : head_length s ≤ length s
  pub follow : PartsFollow s 0 sorts

-- ── the items beside a table ──

module _ (T : Table) where
  -- a word by its role
  abbrev pub WordSound : Role → ℕ → Type 0
  WordSound Plain w = Unit {0}
  WordSound Name w = w < length T.strings
  WordSound FuncType w = kind_at T w ≡ FUNC
  WordSound AnyType w = w ≤ count T

  abbrev pub WordsSound : List Role → List ℕ → Type 0
  WordsSound [] ws = Unit {0}
  WordsSound (ρ ∷ ρs) [] = Unit {0}
  WordsSound (ρ ∷ ρs) (w ∷ ws) = WordSound ρ w × WordsSound ρs ws

  abbrev pub EntrySound : Entry → Type 0
  EntrySound e = WordsSound (roles_of e.sort) e.words

  -- every part has a record size of its sort, every group fits and is not empty: nothing is broken
  abbrev pub ItemSound : Item → Type 0
  ItemSound (broken n) = ⊥
  ItemSound (group name) = name < length T.strings
  ItemSound (entry e) = EntrySound e

  abbrev pub ItemsSound : List Item → Type 0
  ItemsSound [] = Unit {0}
  ItemsSound (i ∷ later) = ItemSound i × ItemsSound later

-- ── the whole ──

-- "Accept exactly unless": none of 40 to 48 holds, of a table, a section and the places lent
pub record Extends (b s : List ℕ) (places work : ℕ) : Type 0 where
  pub table : refusal b places work ≡ none
  pub head : HeadFacts s
  pub opens : take 4 s ≡ take 4 b
  pub sound : ItemsSound (table_of b) (items s)

-- ── records handed out ──

module _ {A : Type 0} where
  abbrev pub also : Option A → List A → List A
  also none xs = xs
  also (some x) xs = x ∷ xs

  -- all that a question answers, for so many numbers from k on
  abbrev pub answers_from : (ℕ → Option A) → ℕ → ℕ → List A
  answers_from f zero k = []
  answers_from f (suc n) k = also (f k) (answers_from f n (suc k))
