-- The record that some bytes begin with: what code that sees a record's bytes is promised of. A word that is not there reads as 0.
use Rattle.std.specs.Prelude.{ℕ, zero, suc, ◌+◌, ◌*◌, Bool, ◌&&◌, List, [], ◌∷◌, length}
use Rattle.paper.specs.rules.Choice.{times}
use Rattle.paper.specs.rules.Kind.{Role, row_of}
use Rattle.paper.specs.rules.Table.{Record, kind_in, vlen_in, tail_length, every_roled}
use Rattle.paper.specs.rules.Word.{word_at}
use Rattle.paper.specs.declared.Order.{Order}

module _ (order : Order) where
  -- so many words from a place on
  abbrev pub words_from : List ℕ → ℕ → ℕ → List ℕ
  words_from s p zero = []
  words_from s p (suc n) = word_at order s p ∷ words_from s (p + 4) n

  -- "Head: name_off, info, size or type, 32 bits each", and the tail that the info word asks for
  unfoldable pub record_in : List ℕ → Record
  record_in s =
      record {
        name_off = word_at order s 0;
        info = word_at order s 4;
        third = word_at order s 8;
        tail = words_from s 12 (tail_length (word_at order s 4));
      }

  -- a test of words by their roles, passed by those from a place on
  unfoldable pub roled : (Role → ℕ → Bool) → List ℕ → ℕ → List Role → Bool
  roled f s p ρs = every_roled f ρs (words_from s p (length ρs))

  -- and by those of the tail of a record with this info word
  abbrev pub tail_roled : (Role → ℕ → Bool) → List ℕ → ℕ → Bool
  tail_roled f s info =
      let row = row_of (kind_in info) in
      roled f s 12 row.once && roled f s (12 + 4 * length row.once) (times (vlen_in info) row.each)
