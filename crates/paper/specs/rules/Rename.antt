-- New numbers for the types and new offsets for the names of a record: each word by its role, once for all kinds.
use Rattle.std.specs.Prelude.{ℕ, zero, suc, ◌+◌, List, [], ◌∷◌}
use Rattle.paper.specs.rules.Kind.{Role, names, refers, holds, number}
use Rattle.paper.specs.rules.Table.{Record, row_in, tail_roles}

module _ (type name : ℕ → ℕ) where
  abbrev pub rename_word : Role → ℕ → ℕ
  rename_word (names rule) w = name w
  rename_word (refers rule) w = type w
  rename_word (holds rule) w = type w
  rename_word number w = w

  abbrev pub rename_words : List Role → List ℕ → List ℕ
  rename_words [] ws = ws
  rename_words (ρ ∷ ρs) [] = []
  rename_words (ρ ∷ ρs) (w ∷ ws) = rename_word ρ w ∷ rename_words ρs ws

  unfoldable pub rename : Record → Record
  rename r =
      record {
        name_off = name r.name_off;
        info = r.info;
        third = rename_word (row_in r).third_role r.third;
        tail = rename_words (tail_roles r) r.tail;
      }

-- a number raised, and void or offset 0 left alone
abbrev pub raise : ℕ → ℕ → ℕ
raise by zero = zero
raise by (suc w) = suc w + by
