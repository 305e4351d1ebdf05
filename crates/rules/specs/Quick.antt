-- What is asked of a record of a known kind, where nothing is due of it.
use Rattle.std.specs.Prelude.{ℕ, ◌+◌, ◌/◌, ◌≡◌, true, List, [], ◌∷◌, ltb, length}
use Rattle.paper.specs.declared.Order.{Order}
use Rattle.paper.specs.rules.Choice.{member}
use Rattle.paper.specs.rules.Heads.{allowed}
use Rattle.paper.specs.rules.Kind.{row_of}
use Rattle.paper.specs.rules.KindNo.{INT}
use Rattle.paper.specs.rules.Table.{vlen_in}
use Rattle.paper.specs.rules.Tails.{int_word_ok}
use Rattle.paper.specs.rules.Word.{word_at}

-- the words of an INT: its size, its name, its one word
pub record IntGood (order : Order) (base strings s : List ℕ) : Type 0 where
  pub size : allowed (row_of INT).third_values (word_at order s 8) ≡ true
  pub name : ltb (word_at order s 0) (length base + length strings) ≡ true
  pub word : int_word_ok (word_at order s 12) (word_at order s 8) ≡ true

-- How many names, at the first word and each third behind it, decide a record with this info word and this name offset, where each is
-- asked for offset 0 or an identifier: one of a TYPEDEF or FUNC whose offset is not 0, and of a STRUCT or UNION its own and its members'.
pub data Deciding (info off n : ℕ) : Type 0 where
  undecided : n ≡ 0 → Deciding info off n
  alone : member info (134217728 ∷ 201326592 ∷ 201326593 ∷ []) ≡ true → (off ≡ 0 → ⊥) → n ≡ 1 → Deciding info off n
  grouped : member (info / 65536) (1024 ∷ 1280 ∷ 33792 ∷ 34048 ∷ []) ≡ true → n ≡ vlen_in info + 1 → Deciding info off n
