-- Records with new numbers as they are written, each word by its role, and what the functions that write them ask.
use Rattle.std.specs.Prelude.{ℕ, zero, suc, ◌+◌, ◌*◌, ◌%◌, ◌≤◌, ◌<◌, cond, ◌≡◌, List, [], ◌∷◌, ◌++◌, map, leb, length, drop}
use Rattle.shift.specs.declared.groups.Group.{Group}
use Rattle.shift.specs.declared.groups.Shift.{Shift}
use Rattle.paper.specs.rules.Choice.{times}
use Rattle.paper.specs.terms.Fit.{word_bound}
use Rattle.paper.specs.rules.Kind.{Role, names, number, row_of}
use Rattle.paper.specs.terms.Put.{put, laid}
use Rattle.paper.specs.terms.Reading.{words_from, record_in}
use Rattle.paper.specs.rules.Rename.{rename_word, rename_words, rename, raise}
use Rattle.paper.specs.rules.Table.{Record, words_of}
use Rattle.paper.specs.rules.Walk.{flat}
use Rattle.paper.specs.declared.Order.{Order}
use Rattle.paper.specs.rules.Word.{bytes_of_words, put_word}
use Rattle.kindrows.specs.Codes.{role_at, role_code}

-- the raising that a shift stands for: of a word, of a run of words, of a record
abbrev pub raised_word : Shift → Role → ℕ → ℕ
raised_word by ρ w = rename_word (raise by.types.0) (raise by.names.0) ρ w

abbrev pub raised_words : Shift → List Role → List ℕ → List ℕ
raised_words by ρs ws = rename_words (raise by.types.0) (raise by.names.0) ρs ws

abbrev pub raised_record : Shift → Record → Record
raised_record by r = rename (raise by.types.0) (raise by.names.0) r

-- the bytes of the words from a place on, raised by their roles
unfoldable pub raised_from : Shift → List ℕ → ℕ → List Role → List ℕ
raised_from by s p ρs = bytes_of_words by.order (raised_words by ρs (words_from by.order s p (length ρs)))

-- how many bytes the record has that some bytes begin with
abbrev pub record_length : Order → List ℕ → ℕ
record_length order s = 4 * length (words_of (record_in order s))

-- the bytes of a record, and of many, raised
unfoldable pub record_bytes : Shift → Record → List ℕ
record_bytes by r = bytes_of_words by.order (words_of (raised_record by r))

-- so many records that stand one behind the other, raised, at the front of an output, as far as it has room for them
abbrev pub raised_run : Shift → ℕ → List ℕ → List ℕ → List ℕ
raised_run by zero s out = out
raised_run by (suc k) s out =
    cond (leb (record_length by.order s) (length out))
    (record_bytes by (record_in by.order s) ++ raised_run by k (drop (record_length by.order s) s) (drop (record_length by.order s) out))
    out

unfoldable pub records_bytes : Shift → List Record → List ℕ
records_bytes by rs = bytes_of_words by.order (flat (map (raised_record by) rs))

-- the roles of a head
abbrev pub head_roles : ℕ → List Role
head_roles kind = names (row_of kind).name ∷ number ∷ (row_of kind).third_role ∷ []

-- a group in code stands for these roles
pub record GroupOf (g : Group) (ρs : List Role) : Type 0 where
  pub counted : g.words ≡ length ρs
  pub few : length ρs ≤ 3
  pub first_role : g.first ≡ role_at ρs 0
  pub second_role : g.second ≡ role_at ρs 1
  pub third-role : g.third ≡ role_at ρs 2

-- ── what is promised, whatever the role that a code stands for ──

-- a word is raised, in 32 bits
pub record WordRaised (by : Shift) (role w r : ℕ) : Type 0 where
  pub raises : (ρ : Role) → role ≡ role_code ρ → r ≡ raised_word by ρ w % word_bound

-- and put at a place
pub record WordPut (by : Shift) (role w at : ℕ) (before after : List ℕ) : Type 0 where
  pub puts : (ρ : Role) → role ≡ role_code ρ → after ≡ put_word by.order before at (raised_word by ρ w)

-- the words of a head, and of a group, and of so many groups, each at its place in some bytes
pub record HeadPut (by : Shift) (kind : ℕ) (s before after : List ℕ) : Type 0 where
  pub puts : after ≡ put before 0 (raised_from by s 0 (head_roles kind))

pub record GroupPut (by : Shift) (g : Group) (s : List ℕ) (at : ℕ) (before after : List ℕ) : Type 0 where
  pub puts : (ρs : List Role) → GroupOf g ρs → after ≡ put before at (raised_from by s at ρs)

pub record EntriesPut (by : Shift) (g : Group) (v : ℕ) (s : List ℕ) (at : ℕ) (before after : List ℕ) : Type 0 where
  pub puts : (ρs : List Role) → GroupOf g ρs → after ≡ put before at (raised_from by s at (times v ρs))

-- the record that some bytes begin with, at the front of an output that has room for it; how many bytes it has, 0 where there is no room
pub record RecordPut (by : Shift) (s before after : List ℕ) (r : ℕ) : Type 0 where
  pub puts : after ≡ laid before 0 (record_bytes by (record_in by.order s))
  pub long : r ≡ cond (leb (record_length by.order s) (length before)) (record_length by.order s) 0

-- ── what is asked ──

-- room for the words of a group at a place of an output
pub record GroupAsk (g : Group) (at room : ℕ) : Type 0 where
  pub few : g.words ≤ 3
  pub fits : at + 4 * g.words ≤ room
  pub small : room < 1000000

-- and of so many entries
pub record EntriesAsk (g : Group) (v at room : ℕ) : Type 0 where
  pub few : g.words ≤ 3
  pub fits : at + v * (4 * g.words) ≤ room
  pub small : room < 1000000

-- just the room for the record that some bytes begin with
pub record RecordAsk (order : Order) (s : List ℕ) (room : ℕ) : Type 0 where
  pub fits : record_length order s ≡ room
  pub small : room < 1000000
