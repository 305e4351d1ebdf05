-- Order 8: what a section is refused for beside a table, the answer and both lent slices, of any bytes.
use Rattle.exts.specs.declared.ExtError.TheVariants.{Refused, TableRefused}
use Rattle.exts.specs.declared.ExtError.{ExtError}
use Rattle.std.specs.Prelude.{ℕ, ◌+◌, Bool, true, not, ◌&&◌, ◌||◌, List, [], ◌∷◌, eqb, leb, ltb, length, take, Err, Ok, Result}
use Rattle.std.proofs.Math.Option.{Option, none, some}
use Rattle.exts.specs.Items.{Entry, Item, broken, group, entry, head_length, describes, part_offset, part_length, items}
use Rattle.exts.specs.Sorts.{in_fours, roles_of, sorts}
use Rattle.exts.specs.declared.Fault.{Fault}
use Rattle.exts.specs.declared.Fault.TheVariants.{Length, Opening, HeaderLength, Parts, RecordSize, Group, Named, Typed}
use Rattle.exts.specs.declared.Role.{Role}
use Rattle.exts.specs.declared.Role.TheVariants.{Plain, Name, FuncType, AnyType}
use Rattle.exts.specs.declared.Sort.{Sort}
use Rattle.paper.specs.rules.Answer.{Answer, inside, report, report_as_paper, value}
use Rattle.paper.specs.rules.Choice.{same, Rule, ◌when◌, first_due, or_else}
use Rattle.paper.specs.rules.Gate.{Outcome, gate, naming, refusal}
use Rattle.paper.specs.rules.Header.{length_bad}
use Rattle.paper.specs.rules.Join.{refused_inside}
use Rattle.paper.specs.rules.KindNo.{FUNC}
use Rattle.paper.specs.rules.Table.{Table, count, kind_at}
use Rattle.paper.specs.rules.Walk.{table_of}

-- ── the section's header: 41, which is the table's own length rule, to 44 ──

module _ (s : List ℕ) where
  -- 43: "header length not 24 or 32, or past the end"
  unfoldable pub head_length_bad : Bool
  head_length_bad = not (eqb (head_length s) 24 || eqb (head_length s) 32) || ltb (length s) (head_length s)

  -- a part begins at an offset, and its "length" is "a multiple of 4"; nothing is asked of one that the header has no words for
  unfoldable pub part_ok : Sort → ℕ → Bool
  part_ok sort o = not (describes s sort) || (eqb (part_offset s sort) o && in_fours (part_length s sort))

  -- "the parts" "follow one another from" an offset "and fill the blob" (exact sum)
  abbrev pub parts_follow : ℕ → List Sort → Bool
  parts_follow o [] = eqb (head_length s + o) (length s)
  parts_follow o (sort ∷ later) = part_ok sort o && parts_follow (o + part_length s sort) later

  -- 44: "the parts don't follow one another from offset 0 and fill the blob, or a length isn't a multiple of 4"
  unfoldable pub parts_bad : Bool
  parts_bad = not (parts_follow 0 sorts)

-- ── the rules of an item beside a table: 45 to 48 ──

-- a test of words by their roles, passed by every word
abbrev pub each_word : (Role → ℕ → Bool) → List Role → List ℕ → Bool
each_word f [] ws = true
each_word f (ρ ∷ ρs) [] = true
each_word f (ρ ∷ ρs) (w ∷ ws) = f ρ w && each_word f ρs ws

-- "a name" is "below the string length"
abbrev pub name_word_ok : ℕ → Role → ℕ → Bool
name_word_ok long Plain w = true
name_word_ok long Name w = ltb w long
name_word_ok long FuncType w = true
name_word_ok long AnyType w = true

-- "a function record's type isn't FUNC, or a relocation's is above n"; void and what is above n are of no kind
abbrev pub type_word_ok : Table → Role → ℕ → Bool
type_word_ok T Plain w = true
type_word_ok T Name w = true
type_word_ok T FuncType w = eqb (kind_at T w) FUNC
type_word_ok T AnyType w = leb w (count T)

-- of a table, and how many bytes of strings it has
module _ (long : ℕ) (T : Table) where
  -- "then the smallest number"
  unfoldable pub entry_rules : Entry → List Rule
  entry_rules e =
      47 when not (each_word (name_word_ok long) (roles_of e.sort) e.words)
      ∷ 48 when not (each_word (type_word_ok T) (roles_of e.sort) e.words)
      ∷ []

  abbrev pub item_rules : Item → List Rule
  item_rules (broken n) = n when true ∷ []
  item_rules (group name) = 47 when not (ltb name long) ∷ []
  item_rules (entry e) = entry_rules e

  -- "the first part, group or record at fault from the front, then the smallest number"
  abbrev pub first_fault : List Item → Option ℕ
  first_fault [] = none
  first_fault (i ∷ later) = or_else (first_due (item_rules i)) (first_fault later)

abbrev pub items_fault : Table → List Item → Option ℕ
items_fault T is = first_fault (length T.strings) T is

-- ── the whole ──

-- "40 to 44 come first in that order"; 42: "the first four bytes aren't the table's"
abbrev pub head_rules : List ℕ → List ℕ → List Rule
head_rules opens s =
    41 when length_bad s
    ∷ 42 when not (same (take 4 s) opens)
    ∷ 43 when head_length_bad s
    ∷ 44 when parts_bad s
    ∷ []

-- what is wrong with a section beside a table whose first four bytes are these
unfoldable pub section_fault : List ℕ → Table → List ℕ → Option ℕ
section_fault opens T s = or_else (first_due (head_rules opens s)) (items_fault T (items s))

-- 40: "the table is refused (its report inside)"
unfoldable pub ext_refusal : List ℕ → List ℕ → ℕ → ℕ → Option Answer
ext_refusal b s places work_places =
    or_else (refused_inside 40 (refusal b places work_places)) (naming 0 (section_fault (take 4 b) (table_of b) s))

-- success answers 0 and nothing else; the u32 slices end as the check of the table leaves them
abbrev pub ext_outcome : Outcome → Option Answer → Outcome
ext_outcome checked none = record { answer = value 0; index = checked.index; work = checked.work }
ext_outcome checked (some a) = record { answer = a; index = checked.index; work = checked.work }

unfoldable pub extend : List ℕ → List ℕ → ℕ → ℕ → Outcome
extend b s places work_places = ext_outcome (gate b places work_places) (ext_refusal b s places work_places)

-- ── the answers in the paper's numbers ──

unfoldable pub fault_number : Fault → ℕ
fault_number Length = 41
fault_number Opening = 42
fault_number HeaderLength = 43
fault_number Parts = 44
fault_number RecordSize = 45
fault_number Group = 46
fault_number Named = 47
fault_number Typed = 48

unfoldable pub judged_number : Result (Unit {0}) Fault → Option ℕ
judged_number (Ok _) = none
judged_number (Err f) = some (fault_number f)

unfoldable pub extended_as_paper : Result (Unit {0}) ExtError → Answer
extended_as_paper (Ok _) = value 0
extended_as_paper (Err (TableRefused r)) = inside 40 (report_as_paper r)
extended_as_paper (Err (Refused f)) = report (fault_number f) 0
